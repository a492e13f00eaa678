-- Laws of the announcer's calls, for those who make them.
--     Opens, check-opens, check-names     bytes that the check accepts are a book, and it tells how many names that has
--     check-long, full-plain, full-other    such bytes end in a trailer; the third byte of its mark tells whether they are a full book
--     whole-range       every name begins with nothing, so the range of nothing tells n
--     exact-within, range-within     a name that was found, alone or as the only one of its range, has a position
--     refusal-code, refusal-kind, refusal-table, refusal-none     the announcer's refusal, way by way
--     Ready, ready-parts     what holds where neither call is refused so
--     clip-refused, clip-long, clip-exact, clip-range, clip-count     a clip's call, way by way
-- Assumes nothing.
use Prim.Native.Nat.{ℕ, suc, ◌+◌, ◌-◌, ◌≤◌, ◌<◌}
use native.Mathlib.Nat.{lt_irrefl}
use native.Mathlib.Decide.{dec_le}
use native.Mathlib.Omega.{arith}
use mathlib.Core.Path.{◌≡◌, refl, sym, ap, ◌∙◌, subst}
use mathlib.Core.Bool.{Bool, true, false}
use mathlib.Core.List.{List, [], ◌∷◌, map}
use lib.Dec.{eqb}
use lib.ListN.{get_or, length, length-map}
use borrow.Author.Tests.{eq-eqb, eqb-true, le-leb, lt-leb, ne_eqb}
use Rattle.words.specs.Words.{Bytes, Words, begins, both, pick, same, shared, word}
use Rattle.words.specs.Rising.{All, cons, nil}
use Rattle.format.specs.Full.{is_full}
use Rattle.format.specs.Kinds.{BookKind, ColumnBook, FoldedBook, PlainBook, kind_of, mark_of, rule_of}
use Rattle.format.specs.Book.{Book, NoBook, Opened, opened, trailer_size}
use Rattle.format.specs.Outcomes.{Answer, check_of, given, refused}
use Rattle.format.specs.Records.{longest}
use Rattle.format.proofs.Book.{opened-kind, opened-long, opened-third}
use Rattle.answers.specs.Announcing.{Clips, clip_of, refusal, spoken}
use Rattle.answers.specs.Calls.{check, names_answer, question, question_of}
use Rattle.answers.specs.Questions.{Pair, answer, ask, exact, exact_from, range}
use Rattle.answers.proofs.Calls.{question-given, question-long}
use Rattle.answers.proofs.Places.{count-all, range-le}

-- ---- what an accepting check tells

pub record Opens (s : Bytes) : Type 0 where
  pub kind : BookKind
  pub block : ℕ
  pub names : List Bytes
  pub is : opened s ≡ Book kind block names

module _ (s : Bytes) where
  pub check-opens : (check s).code ≡ 0 → Opens s
  unfolding check check_of
  check-opens sound = go (opened s) refl sound
    where
      go : (o : Opened) → opened s ≡ o → (check_of o).code ≡ 0 → Opens s
      go NoBook p e = absurd (omega (arith, e))
      go (Book κ k xs) p e = record { kind = κ; block = k; names = xs; is = p }

  pub check-names : (o : Opens s) → (check s).first ≡ length o.names
  unfolding check check_of
  check-names o = ap (λ (x : Opened). (check_of x).first) o.is

-- ---- the kind of book

module _ (s : Bytes) (sound : (check s).code ≡ 0) where
  pub check-long : trailer_size ≤ length s
  check-long = let o = check-opens s sound in opened-long o.kind s o.block o.names o.is

  -- by the kind that was opened, which is the mark's
  third : (t : Bool) → ((κ : BookKind) → get_or s (length s - 2) 0 ≡ get_or (mark_of κ) 2 0 → t ≡ is_full κ) → t ≡ is_full (kind_of s)
  third t f =
      let o = check-opens s sound in
      subst (λ (κ : BookKind). t ≡ is_full κ) (sym (opened-kind o.kind s o.block o.names o.is)) (f o.kind (opened-third o.kind s o.block o.names o.is))

  pub full-plain : get_or s (length s - 2) 0 ≡ 0x4B → true ≡ is_full (kind_of s)
  full-plain e = third true go
    where
      go : (κ : BookKind) → get_or s (length s - 2) 0 ≡ get_or (mark_of κ) 2 0 → true ≡ is_full κ
      go PlainBook h = refl
      go FoldedBook h = refl
      go ColumnBook h = absurd (lt_irrefl 0 (omega (arith, e, h)))

  pub full-other : (get_or s (length s - 2) 0 ≡ 0x4B → ⊥) → eqb (get_or s (length s - 2) 0) 0x46 ≡ is_full (kind_of s)
  full-other n = third (eqb (get_or s (length s - 2) 0) 0x46) go
    where
      go : (κ : BookKind) → get_or s (length s - 2) 0 ≡ get_or (mark_of κ) 2 0 → eqb (get_or s (length s - 2) 0) 0x46 ≡ is_full κ
      go PlainBook h = absurd (n h)
      go FoldedBook h = eq-eqb (get_or s (length s - 2) 0) 0x46 h
      go ColumnBook h = ne_eqb (get_or s (length s - 2) 0) 0x46 (λ e. lt_irrefl 0 (omega (arith, e, h)))

-- ---- what a question tells

nothing-begins : (ws : Words) → All (λ w. begins [] w ≡ true) ws
unfolding begins shared
nothing-begins [] = nil
nothing-begins (w ∷ ws) = cons refl (nothing-begins ws)

exact-from-within : (i : ℕ) (q : List ℕ) (ws : Words) → (exact_from i q ws).1 ≡ 1 → (exact_from i q ws).0 < i + length ws
unfolding exact_from
exact-from-within i q [] e = absurd (lt_irrefl 0 (omega arith))
exact-from-within i q (w ∷ ws) e = go (same w q) (exact-from-within (suc i) q ws) e
  where
    more : Pair
    more = exact_from (suc i) q ws

    go : (t : Bool) → (more.1 ≡ 1 → more.0 < suc i + length ws) → (pick t (i, 1) more).1 ≡ 1 → (pick t (i, 1) more).0 < i + length (w ∷ ws)
    go true h e = omega arith
    go false h e = omega (arith, h e)

module _ (s q : Bytes) (sound : (check s).code ≡ 0) where
  abbrev book : Opens s
  book = check-opens s sound

  abbrev words : Words
  words = map (word (rule_of book.kind)) book.names

  asked : (kind : ℕ) → question kind s q ≡ names_answer (rule_of book.kind) kind q book.names
  unfolding question question_of
  asked kind = ap (question_of kind q) book.is

  -- what a kind that is not nearest's gives to a text that is not too long
  answered : (kind : ℕ) → (kind ≡ 4 → ⊥) → length q ≤ longest
      → question kind s q ≡ given (answer (rule_of book.kind) kind q book.names).0 (answer (rule_of book.kind) kind q book.names).1
  answered kind n h = asked kind ∙ sym (question-given (rule_of book.kind) kind q book.names h (λ e z. n e) (answer (rule_of book.kind) kind q book.names) refl)

  -- another text counts none
  short : (kind : ℕ) → (question kind s q).second ≡ 1 → length q ≤ longest
  short kind e = elim (dec_le (length q) longest) [
    | yes h ↦ h
    | no h ↦
        let long : question kind s q ≡ refused 1 = asked kind ∙ question-long (rule_of book.kind) kind q book.names (omega arith) in
        absurd (lt_irrefl 0 (omega (arith, e, ap (λ (a : Answer). a.second) long)))
  ]

  pub exact-within : (question 1 s q).second ≡ 1 → (question 1 s q).first < (check s).first
  unfolding answer ask exact
  exact-within e =
      let is = answered 1 (λ z. lt_irrefl 1 (omega arith)) (short 1 e) in
      omega (arith, ap (λ (a : Answer). a.first) is, exact-from-within 0 (word (rule_of book.kind) q) words (sym (ap (λ (a : Answer). a.second) is) ∙ e), length-map book.names (word (rule_of book.kind)), check-names s book)

  pub range-within : (question 3 s q).second ≡ 1 → (question 3 s q).first < (check s).first
  unfolding answer ask range
  range-within e =
      let is = answered 3 (λ z. lt_irrefl 3 (omega arith)) (short 3 e) in
      omega (arith, ap (λ (a : Answer). a.first) is, ap (λ (a : Answer). a.second) is, e, range-le (word (rule_of book.kind) q) words, length-map book.names (word (rule_of book.kind)), check-names s book)

pub whole-range : (s : Bytes) → (check s).code ≡ 0 → (question 3 s []).second ≡ (check s).first
unfolding answer ask range
whole-range s sound =
    let is = answered s [] sound 3 (λ z. lt_irrefl 3 (omega arith)) (omega arith) in
    omega (arith, ap (λ (a : Answer). a.second) is, count-all (begins []) (words s [] sound) (nothing-begins (words s [] sound)), length-map (book s [] sound).names (word (rule_of (book s [] sound).kind)), check-names s (book s [] sound))

-- ---- the refusal that both calls have

module _ (s : Bytes) (clips : Clips) where
  pub refusal-code : ((check s).code ≡ 0 → ⊥) → 2 ≡ refusal s clips
  unfolding refusal
  refusal-code n = rw (ne_eqb (check s).code 0 n) refl

  module _ (sound : (check s).code ≡ 0) where
    pub refusal-kind : is_full (kind_of s) ≡ false → 2 ≡ refusal s clips
    unfolding refusal
    refusal-kind e = rw (eq-eqb (check s).code 0 sound, e) refl

    module _ (full : is_full (kind_of s) ≡ true) where
      pub refusal-table : (length clips ≡ (check s).first → ⊥) → 16 ≡ refusal s clips
      unfolding refusal
      refusal-table n = rw (eq-eqb (check s).code 0 sound, full, ne_eqb (length clips) (check s).first n) refl

      pub refusal-none : length clips ≡ (check s).first → 0 ≡ refusal s clips
      unfolding refusal
      refusal-none e = rw (eq-eqb (check s).code 0 sound, full, eq-eqb (length clips) (check s).first e) refl

pub record Ready (s : Bytes) (clips : Clips) : Type 0 where
  pub sound : (check s).code ≡ 0
  pub full : is_full (kind_of s) ≡ true
  pub table : length clips ≡ (check s).first

pub ready-parts : (s : Bytes) (clips : Clips) → 0 ≡ refusal s clips → Ready s clips
unfolding refusal
ready-parts s clips ready = go (eqb (check s).code 0) refl (is_full (kind_of s)) refl (eqb (length clips) (check s).first) refl ready
  where
    go : (t : Bool) → eqb (check s).code 0 ≡ t → (f : Bool) → is_full (kind_of s) ≡ f → (u : Bool) → eqb (length clips) (check s).first ≡ u
        → ◌≡◌ {A = ℕ} 0 (pick (both t f) (pick u 0 16) 2) → Ready s clips
    go true a true b true c e = record { sound = eqb-true (check s).code 0 a; full = b; table = eqb-true (length clips) (check s).first c }
    go true a true b false c e = absurd (lt_irrefl 0 (omega arith))
    go true a false b u c e = absurd (lt_irrefl 0 (omega arith))
    go false a f b u c e = absurd (lt_irrefl 0 (omega arith))

-- ---- a text

module _ (s : Bytes) (clips : Clips) (text : Bytes) where
  pub clip-refused : (code : ℕ) → code ≡ refusal s clips → (code ≡ 0 → ⊥) → refused code ≡ clip_of s clips text
  unfolding clip_of
  clip-refused code e n = rw (sym e, ne_eqb code 0 n) refl

  module _ (ready : 0 ≡ refusal s clips) where
    pub clip-long : longest < length text → refused 1 ≡ clip_of s clips text
    unfolding clip_of
    clip-long h = rw (sym ready, lt-leb (length text) longest h) refl

    module _ (short : length text ≤ longest) where
      clip-spoken : spoken clips (question 1 s text) (question 3 s text) ≡ clip_of s clips text
      unfolding clip_of
      clip-spoken = rw (sym ready, le-leb (length text) longest short) refl

      pub clip-exact : (question 1 s text).second ≡ 1 → given 1 (get_or clips (question 1 s text).first 0) ≡ clip_of s clips text
      unfolding spoken
      clip-exact e = rw (eq-eqb (question 1 s text).second 1 e) refl ∙ clip-spoken

      module _ (none : (question 1 s text).second ≡ 1 → ⊥) where
        pub clip-range : (question 3 s text).second ≡ 1 → given 1 (get_or clips (question 3 s text).first 0) ≡ clip_of s clips text
        unfolding spoken
        clip-range e = rw (ne_eqb (question 1 s text).second 1 none, eq-eqb (question 3 s text).second 1 e) refl ∙ clip-spoken

        pub clip-count : ((question 3 s text).second ≡ 1 → ⊥) → given 0 (question 3 s text).second ≡ clip_of s clips text
        unfolding spoken
        clip-count n = rw (ne_eqb (question 1 s text).second 1 none, ne_eqb (question 3 s text).second 1 n) refl ∙ clip-spoken
