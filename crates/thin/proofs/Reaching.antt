-- The names of a book, gone through in order.
--     Reaching, reaching-..     the loop of `reach`: how it begins, what a turn asks and leaves, and how it ends
-- Assumes nothing.
use Prim.Native.Nat.{ℕ, suc, zero, ◌+◌, ◌-◌, ◌≤◌, ◌<◌}
use native.Mathlib.Omega.{arith}
use mathlib.Core.Path.{◌≡◌, ◌∙◌, ap, ap₂, subst, sym}
use mathlib.Core.List.{[]}
use lib.ListN.{drop, get_or, length, length-append, length-drop, length-map, length-take, take}
use lib.Seq.{drop-drop, get_or-drop}
use Rattle.words.specs.Words.{Bytes, plain, shared, word}
use Rattle.words.specs.Rising.{nth}
use Rattle.words.proofs.Rising.{nth-less, nth-word}
use Rattle.words.proofs.Words.{less-short}
use Rattle.format.specs.Book.{names_of}
use Rattle.format.specs.Records.{longest}
use Rattle.format.specs.Spans.{words_of}
use Rattle.answers.specs.Questions.{reached}
use Rattle.answers.specs.Stops.{Stop}
use Rattle.descent.specs.Vocabulary.{reach_in, reach_node}
use Rattle.descent.proofs.Reach.{reach-root}
use Rattle.streams.specs.Streams.{EntryAt, Stream, entry_end, name_at, rest_at}
use Rattle.entries.specs.Reading.{NextIs}
use Rattle.entries.proofs.Reading.{stream-next}
use Rattle.thin.specs.Edges.{Edge, Inside, Lower, Open, root}
use Rattle.thin.specs.Frames.{CloseAsk, CloseSays, GrowAsk, GrowSays, ReachAsk, Rows, Standing, frames_in, place_count, words_by}
use Rattle.thin.specs.declared.Closed.{Closed}
use Rattle.thin.proofs.Edges.{open-root}

-- ---- the loop of `reach`

-- i names were gone through; the last of them is at hand, and the cursor stands at the next entry
pub record Reaching (b question ds cs ps name : Bytes) (n forks o i : ℕ) : Type 0 where
  pub ask : ReachAsk b n
  pub rows : Rows ds cs ps
  pub some : 1 ≤ i
  pub upto : i ≤ n
  pub named : name ≡ get_or (names_of b) (i - 1) []
  pub others : Stream b o name (drop i (names_of b))
  pub few : forks ≤ place_count
  pub edge : Edge (word plain question) (words_by b) (frames_in ds cs ps forks) (i - 1)
  pub inside : Inside (words_by b) (frames_in ds cs ps forks) (i - 1) i

words_count : (b : Bytes) → length (words_by b) ≡ length (names_of b)
unfolding words_of
words_count b = length-map (names_of b) (word plain)

word_at : (b : Bytes) (i : ℕ) → nth (words_by b) i ≡ word plain (get_or (names_of b) i [])
unfolding words_of
word_at b i = nth-word plain (names_of b) i

-- the first name is read
pub reaching-front : {b : Bytes} {n : ℕ} → ReachAsk b n → EntryAt b 0 0
reaching-front {b} a = (stream-next b 0 [] (names_of b) (omega (arith, a.count, a.some)) a.known.stream).0

pub reaching-first : {b question ds cs ps prev name : Bytes} {n t o : ℕ} → ReachAsk b n → Rows ds cs ps → t ≡ 0 → prev ≡ [] → NextIs b 0 prev o name
    → Reaching b question ds cs ps name n t o 1
unfolding frames_in
reaching-first {b} {question} {ds} {cs} {ps} {prev} {name} {n} {t} {o} a w te pe r =
    let next = stream-next b 0 [] (names_of b) (omega (arith, a.count, a.some)) a.known.stream in
    let is : name ≡ name_at b 0 [] = r.name-is ∙ ap (name_at b 0) pe in
    subst (λ (m : ℕ). Reaching b question ds cs ps name n m o 1) (sym te) (record {
      ask = a;
      rows = w;
      some = omega arith;
      upto = a.some;
      named = is ∙ next.1;
      others = rw (is, r.next-is) next.2;
      few = omega arith;
      edge = root;
      inside = tt;
    })

module _ {b question ds cs ps name : Bytes} {n forks o i : ℕ} (k : Reaching b question ds cs ps name n forks o i) where
  last-in : suc (i - 1) ≡ i
  last-in = omega (arith, k.some)

  pub reaching-standing : Standing b question (name) ds cs ps forks (i - 1)
  reaching-standing = record {
    rises = k.ask.known.rises;
    within = omega (arith, words_count b, k.ask.count, k.some, k.upto);
    small = omega (arith, k.ask.count, k.ask.known.few, k.upto);
    name-is = ap (word plain) k.named ∙ sym (word_at b (i - 1));
    rows = k.rows;
    few = k.few;
    edge = k.edge;
    inside = subst (λ (m : ℕ). Inside (words_by b) (frames_in ds cs ps forks) (i - 1) m) (sym last-in) k.inside;
  }

  module _ (l : i < n) where
    next_of : EntryAt b o (length name) × (name_at b o name ≡ get_or (drop i (names_of b)) 0 []) × Stream b (entry_end b o) (name_at b o name) (drop 1 (drop i (names_of b)))
    next_of = stream-next b o name (drop i (names_of b)) (omega (arith, length-drop i (names_of b), k.ask.count)) k.others

    pub reaching-entry : EntryAt b o (length name)
    reaching-entry = next_of.0

    -- the next name
    next-name : name_at b o name ≡ get_or (names_of b) i []
    next-name = let z : i + 0 ≡ i = omega arith in next_of.1 ∙ get_or-drop i (names_of b) 0 [] ∙ ap (λ (j : ℕ). get_or (names_of b) j []) z

    module _ {h : ℕ} (he : h ≡ shared (word plain (name)) (word plain (name_at b o (name)))) where
      parts : h ≡ shared (nth (words_by b) (i - 1)) (nth (words_by b) (suc (i - 1)))
      parts =
          he ∙ ap₂ shared (ap (word plain) k.named ∙ sym (word_at b (i - 1)))
          (ap (word plain) next-name ∙ sym (word_at b i) ∙ ap (nth (words_by b)) (sym last-in))

      short : h < place_count
      short =
          let w = nth (words_by b) (suc (i - 1)) in
          let few : length w ≤ longest = omega (arith, ap length (ap (nth (words_by b)) last-in ∙ word_at b i ∙ ap (word plain) (sym next-name)), length-map (name_at b o name) plain, name-short) in
          omega (arith, parts, few, less-short (nth (words_by b) (i - 1)) w (nth-less (words_by b) (i - 1) (suc (i - 1)) k.ask.known.rises (omega arith) (omega (arith, words_count b, k.ask.count, last-in))))
        where
          name-short : length (name_at b o name) ≤ longest
          name-short = omega (
            arith,
            length-append (take (get_or b o 0) name) (rest_at b o),
            length-take (get_or b o 0) name,
            length-take (get_or b (o + 1) 0) (drop (o + 2) b),
            reaching-entry.short,
          )

      pub reaching-grow : GrowAsk b question (name) ds cs ps forks (i - 1) h
      reaching-grow = record { standing = reaching-standing; next = omega (arith, words_count b, k.ask.count, last-in); parts = parts; short = short }

    pub reaching-more : {es xs rs after : Bytes} {t next : ℕ} → GrowSays b question es xs rs (i - 1) t → NextIs b o name next after
        → Reaching b question es xs rs after n t next (i + 1)
    reaching-more {es} {xs} {rs} {after} {t} {next} g r =
        let at : i + 1 - 1 ≡ i = omega arith in
        let on : i + 1 ≡ suc (suc (i - 1)) = omega (arith, k.some) in
        record {
          ask = k.ask;
          rows = g.rows;
          some = omega arith;
          upto = omega arith;
          named = r.name-is ∙ next-name ∙ ap (λ (j : ℕ). get_or (names_of b) j []) (sym at);
          others = rw (r.name-is, r.next-is, ← drop-drop 1 i (names_of b)) next_of.2;
          few = g.few;
          edge = subst (λ (j : ℕ). Edge (word plain question) (words_by b) (frames_in es xs rs t) j) (last-in ∙ sym at) g.edge;
          inside = rw (at, on) (subst (λ (j : ℕ). Inside (words_by b) (frames_in es xs rs t) j (suc (suc (i - 1)))) last-in g.inside);
        }

  -- ---- all names were gone through

  module _ (l : n ≤ i) where
    last-is : i - 1 ≡ n - 1
    last-is = omega (arith, k.upto)

    pub reaching-close : CloseAsk b question name ds cs ps forks (n - 1) 0
    reaching-close = subst (λ (m : ℕ). CloseAsk b question name ds cs ps forks m 0) last-is (record { standing = reaching-standing; low = omega arith })

    pub reaching-done : {r : Closed} → CloseSays b question ds cs ps forks (n - 1) 0 r → r.reach ≡ reached (word plain question) (words_by b)
    unfolding reached reach_node frames_in
    reaching-done {r} s = go r.forks s.lower s.left
      where
        all : suc (n - 1) ≡ length (words_by b)
        all = omega (arith, words_count b, k.ask.count, k.ask.some)

        go : (t : ℕ) → Lower (frames_in ds cs ps t) 0 → Open (word plain question) (words_by b) (frames_in ds cs ps t) r.first (suc (n - 1)) r.reach → r.reach ≡ reached (word plain question) (words_by b)
        go zero h o =
            open-root (word plain question) (words_by b) k.ask.known.rises o
            ∙ ap (λ (m : ℕ). (reach_in (word plain question) (words_by b) 0 m).position) all
            ∙ sym (ap (λ (x : Stop). x.position) (reach-root (word plain question) (words_by b)))
        go (suc t) h o = absurd (omega (arith, h))
