-- Document 02, CR 9: the announcer, over its public calls, for books of every rule at once.
--     clip-settles, route-settles     two results that a call's statement allows coincide
--     clip-of-name      a text that is a name gives that name's clip, whatever else begins with it
--     clip-is           the clip given is that of a name that is the text, or of the only name that begins with it
--     clip-counts       without a clip the number is the range's, and no name is the text
--     route-says        row i of a route is the clip of position i, and behind the route nothing has changed; a refused one writes nothing; a bad position is the first
--     route-stops       the first bad position is told, whatever stands behind it
--     announcer-met     on the document's book nothing is refused: the premises can be met
-- Assumes nothing.
use Prim.Native.Nat.{ℕ, ◌+◌, ◌*◌, ◌≤◌, ◌<◌}
use native.Mathlib.Nat.{eq-or-lt_of_le, lt_irrefl}
use native.Mathlib.Decide.{dec_le, ℕ_discrete}
use native.Mathlib.Omega.{arith}
use mathlib.Core.Path.{◌≡◌, refl, sym, ap, ◌∙◌, subst}
use mathlib.Core.Logic.{inl, inr, ⊎_elim}
use mathlib.Core.Bool.{Bool, true, false}
use mathlib.Core.List.{List, [], ◌∷◌, ◌++◌}
use lib.Dec.{eqb, ltb}
use lib.ListN.{get_or-append, drop, get_or, length, length-append, length-map}
use lib.Seq.{drop-append_seam, get_or-append_seam}
use Rattle.words.specs.Words.{Bytes, begins, both, less, pick, same, shared, word}
use Rattle.words.proofs.Words.{both_true, same_true}
use Rattle.format.specs.Full.{is_full}
use Rattle.format.specs.Kinds.{BookKind, kind_of, rule_of}
use Rattle.format.specs.Book.{Book, block_part, book_by, entry_part, fits_by, is_book_by, joined, names_of, number, numbers, opened, trailer}
use Rattle.format.specs.Entries.{blocks, blocks_from, decode, decode_from, entry, front, offsets}
use Rattle.format.specs.Example.{example_by2, text}
use Rattle.format.specs.Nodes.{all_fields, depth, glue, groups, row_by, table, table_within}
use Rattle.format.specs.Outcomes.{Answer, check_of, given, numbered, over, refused}
use Rattle.format.specs.Records.{longest, rising, sound}
use Rattle.format.specs.Spans.{node_table}
use Rattle.format.specs.Widths.{widest}
use Rattle.answers.specs.Announcing.{Clips, clip_of, refusal, spoken}
use Rattle.answers.specs.Calls.{check, names_answer, question, question_of}
use Rattle.answers.specs.Lit.{lit, may_end}
use Rattle.answers.specs.Questions.{Pair, answer, ask, count, exact, exact_from, place, range}
use Rattle.answers.specs.Routes.{Routed, clips_at, first_bad, most_stops, route_of}
use Rattle.answers.proofs.AllRefusals.{clips3, lent_room}
use Rattle.answers.proofs.Announcing.{Opens, check-names, clip-count, clip-exact, clip-long, clip-range, clip-refused, exact-within, range-within, ready-parts}
use Rattle.answers.proofs.Routes.{Good, bad-good, bad-here, bad-is, clip-at, route-bad, route-given, route-long, route-refused, route-short}
use Rattle.theorems.specs.Announcing.{ClipOf, Equals, RouteSays}
use Rattle.theorems.specs.Layouts.{Answers}
use Rattle.theorems.proofs.Lettered.{kind-lettered}
use Rattle.theorems.proofs.Questions.{exact-finds, exact-is}
use Rattle.theorems.proofs.Ranges.{asks, begun, book-answers, in-range}

-- ---- two results

pub clip-settles : (s : Bytes) (clips : Clips) (text : Bytes) (a b : Answer) → a ≡ clip_of s clips text → b ≡ clip_of s clips text → a ≡ b
clip-settles s clips text a b e f = e ∙ sym f

pub route-settles : (s : Bytes) (clips : Clips) (positions : List ℕ) (room : Clips) (a b : Routed) → a ≡ route_of s clips positions room → b ≡ route_of s clips positions room
    → (a.answer ≡ b.answer) × (a.room ≡ b.room)
route-settles s clips positions room a b e f = (ap (λ (r : Routed). r.answer) (e ∙ sym f), ap (λ (r : Routed). r.room) (e ∙ sym f))

-- ---- a text

module _ (κ : BookKind) (s : Bytes) (k : ℕ) (xs : List Bytes) (opens : opened s ≡ Book κ k xs) (clips : Clips) (text : Bytes) where
  book-is : Opens s
  book-is = record { kind = κ; block = k; names = xs; is = opens }

  calls : Answers (rule_of κ) xs (λ kind q. question kind s q)
  calls = book-answers κ s k xs opens

  -- exact's two numbers
  exact-given : length text ≤ longest → question 1 s text ≡ given (answer (rule_of κ) 1 text xs).0 (answer (rule_of κ) 1 text xs).1
  exact-given short = asks calls text short 1 (λ e. lt_irrefl 1 (omega arith))

  pub clip-of-name : 0 ≡ refusal s clips → length text ≤ longest → (i : ℕ) → i < length xs → Equals (rule_of κ) xs text i → clip_of s clips text ≡ given 1 (get_or clips i 0)
  clip-of-name ready short i h e =
      let found : question 1 s text ≡ given i 1 = exact-given short ∙ ap (λ (a : Pair). given a.0 a.1) (exact-finds (rule_of κ) xs calls.letters calls.sound text (kind-lettered κ text) i h e) in
      sym (clip-exact s clips text ready short (ap (λ (a : Answer). a.second) found)) ∙ ap (λ (a : Answer). given 1 (get_or clips a.first 0)) found

  -- the name that exact found is the text
  exact-equals : length text ≤ longest → (question 1 s text).second ≡ 1 → Equals (rule_of κ) xs text (question 1 s text).first
  exact-equals short one =
      let is = exact-given short ∙ ap (λ (a : Pair). given a.0 a.1) (exact-is (rule_of κ) xs calls.letters calls.sound text (kind-lettered κ text)) in
      go (both (ltb at (length xs)) (same (word (rule_of κ) (get_or xs at [])) (word (rule_of κ) text))) refl is
    where
      at : ℕ
      at = (answer (rule_of κ) 2 text xs).0

      go : (t : Bool) → both (ltb at (length xs)) (same (word (rule_of κ) (get_or xs at [])) (word (rule_of κ) text)) ≡ t → question 1 s text ≡ given (pick {X = Pair} t (at, 1) (0, 0)).0 (pick {X = Pair} t (at, 1) (0, 0)).1
          → Equals (rule_of κ) xs text (question 1 s text).first
      go true b e =
          subst (Equals (rule_of κ) xs text) (sym (ap (λ (a : Answer). a.first) e))
          (same_true _ _ (both_true (ltb at (length xs)) (same (word (rule_of κ) (get_or xs at [])) (word (rule_of κ) text)) b).1)
      go false b e = absurd (lt_irrefl 0 (omega (arith, one, ap (λ (a : Answer). a.second) e)))

  -- the ways that a text is answered
  data Ways : Answer → Type 0 where
    stopped : (code : ℕ) → (code ≡ 0 → ⊥) → Ways (refused code)
    exactly : 0 ≡ refusal s clips → length text ≤ longest → (question 1 s text).second ≡ 1 → Ways (given 1 (get_or clips (question 1 s text).first 0))
    alone : 0 ≡ refusal s clips → length text ≤ longest → (question 3 s text).second ≡ 1 → Ways (given 1 (get_or clips (question 3 s text).first 0))
    counted : 0 ≡ refusal s clips → length text ≤ longest → ((question 1 s text).second ≡ 1 → ⊥) → Ways (given 0 (question 3 s text).second)

  ways : Ways (clip_of s clips text)
  ways = elim (ℕ_discrete (refusal s clips) 0) [
    | no n ↦ subst Ways (clip-refused s clips text (refusal s clips) refl n) (stopped (refusal s clips) n)
    | yes z ↦ elim (dec_le (length text) longest) [
      | no l ↦ subst Ways (clip-long s clips text (sym z) (omega arith)) (stopped 1 (λ e. lt_irrefl 0 (omega arith)))
      | yes l ↦ elim (ℕ_discrete (question 1 s text).second 1) [
        | yes e ↦ subst Ways (clip-exact s clips text (sym z) l e) (exactly (sym z) l e)
        | no n ↦ elim (ℕ_discrete (question 3 s text).second 1) [
          | yes e ↦ subst Ways (clip-range s clips text (sym z) l n e) (alone (sym z) l e)
          | no m ↦ subst Ways (clip-count s clips text (sym z) l n m) (counted (sym z) l n)
        ]
      ]
    ]
  ]

  names : (check s).first ≡ length xs
  unfolding book-is
  names = check-names s book-is

  pub clip-is : (clip : ℕ) → clip_of s clips text ≡ given 1 clip → ClipOf (rule_of κ) xs clips text clip
  clip-is clip e = go (clip_of s clips text) ways e
    where
      go : (a : Answer) → Ways a → a ≡ given 1 clip → ClipOf (rule_of κ) xs clips text clip
      go _ (stopped code n) f = absurd (n (ap (λ (a : Answer). a.code) f))
      go _ (exactly ready short one) f = record {
        position = (question 1 s text).first;
        within = omega (arith, exact-within s text (ready-parts s clips ready).sound one, names);
        is = sym (ap (λ (a : Answer). a.second) f);
        named = inl (exact-equals short one);
      }
      go _ (alone ready short one) f = record {
        position = (question 3 s text).first;
        within = omega (arith, range-within s text (ready-parts s clips ready).sound one, names);
        is = sym (ap (λ (a : Answer). a.second) f);
        named = inr (
          begun calls text short (question 3 s text).first (record { low = omega arith; high = omega arith }),
          (λ i h b. let r = in-range calls text short i h b in omega (arith, r.low, r.high)),
        );
      }
      go _ (counted ready short n) f = absurd (lt_irrefl 0 (omega (arith, ap (λ (a : Answer). a.first) f)))

  pub clip-counts : (n : ℕ) → clip_of s clips text ≡ given 0 n → (n ≡ (question 3 s text).second) × ((i : ℕ) → i < length xs → Equals (rule_of κ) xs text i → ⊥)
  clip-counts n e = go (clip_of s clips text) ways e
    where
      go : (a : Answer) → Ways a → a ≡ given 0 n → (n ≡ (question 3 s text).second) × ((i : ℕ) → i < length xs → Equals (rule_of κ) xs text i → ⊥)
      go _ (stopped code m) f = absurd (m (ap (λ (a : Answer). a.code) f))
      go _ (exactly ready short one) f = absurd (lt_irrefl 0 (omega (arith, ap (λ (a : Answer). a.first) f)))
      go _ (alone ready short one) f = absurd (lt_irrefl 0 (omega (arith, ap (λ (a : Answer). a.first) f)))
      go _ (counted ready short m) f = (
        sym (ap (λ (a : Answer). a.second) f),
        λ i h b. m (ap (λ (a : Answer). a.second) (exact-given short ∙ ap (λ (a : Pair). given a.0 a.1) (exact-finds (rule_of κ) xs calls.letters calls.sound text (kind-lettered κ text) i h b))),
      )

-- ---- a route

module _ (s : Bytes) (clips : Clips) (positions : List ℕ) (room : Clips) where
  -- a refusal that brings no index
  refuses : (code : ℕ) → (code ≡ 0 → ⊥) → (code ≡ 3 → ⊥) → RouteSays s clips positions room (record { answer = refused code; room = room })
  refuses code n m = record {
    kept = λ e. refl;
    size = λ e. absurd (n e);
    rows = λ e. absurd (n e);
    behind = λ e. absurd (n e);
    first = λ i e. absurd (m (ap (λ (a : Answer). a.code) e));
  }

  no-three : refusal s clips ≡ 3 → ⊥
  unfolding refusal
  no-three e = go (both (eqb (check s).code 0) (is_full (kind_of s))) (eqb (length clips) (check s).first) e
    where
      go : (t u : Bool) → ◌≡◌ {A = ℕ} (pick t (pick u 0 16) 2) 3 → ⊥
      go true true f = lt_irrefl 0 (omega arith)
      go true false f = lt_irrefl 0 (omega arith)
      go false u f = lt_irrefl 0 (omega arith)

  pub route-says : RouteSays s clips positions room (route_of s clips positions room)
  route-says = elim (ℕ_discrete (refusal s clips) 0) [
    | no n ↦ subst (RouteSays s clips positions room) (route-refused s clips positions room (refusal s clips) refl n) (refuses (refusal s clips) n no-three)
    | yes z ↦ elim (dec_le (length positions) most_stops) [
      | no l ↦ subst (RouteSays s clips positions room) (route-long s clips positions room (sym z) (omega arith)) (refuses 12 (λ e. lt_irrefl 0 (omega arith)) (λ e. lt_irrefl 0 (omega arith)))
      | yes few ↦ elim (ℕ_discrete bad (length positions)) [
        | no n ↦ subst (RouteSays s clips positions room) (route-bad s clips positions room (sym z) few bad refl n) (stops n)
        | yes good ↦ elim (dec_le (length positions) (length room)) [
          | no l ↦ subst (RouteSays s clips positions room) (route-short s clips positions room (sym z) few bad refl good (omega arith)) (refuses 4 (λ e. lt_irrefl 0 (omega arith)) (λ e. lt_irrefl 0 (omega arith)))
          | yes l ↦ subst (RouteSays s clips positions room) (route-given s clips positions room (sym z) few bad refl good l) (goes (sym z) good)
        ]
      ]
    ]
  ]
    where
      bad : ℕ
      bad = first_bad (check s).first positions

      upto : Good (check s).first positions bad
      upto = bad-good positions

      stops : (bad ≡ length positions → ⊥) → RouteSays s clips positions room (record { answer = numbered 3 bad; room = room })
      stops n =
          let h : bad < length positions = ⊎_elim (λ (e : bad ≡ length positions). absurd (n e)) (λ (l : bad < length positions). l) (eq-or-lt_of_le upto.passed) in
          record {
            kept = λ e. refl;
            size = λ e. absurd (lt_irrefl 0 (omega arith));
            rows = λ e. absurd (lt_irrefl 0 (omega arith));
            behind = λ e. absurd (lt_irrefl 0 (omega arith));
            first = λ i e.
                let is : bad ≡ i = ap (λ (a : Answer). a.first) e in
                subst (λ (j : ℕ). (j < length positions) × ((check s).first ≤ get_or positions j 0) × ((m : ℕ) → m < j → get_or positions m 0 < (check s).first)) is (h, bad-is positions h, upto.below);
          }

      goes : 0 ≡ refusal s clips → bad ≡ length positions → RouteSays s clips positions room (record { answer = given (2 * length positions) 0; room = over (clips_at clips positions) room })
      goes ready good =
          let many : length (clips_at clips positions) ≡ length positions = length-map positions (λ j. get_or clips j 0) in
          record {
            kept = λ n. absurd (n refl);
            size = λ e. refl;
            rows = λ e i h. (
              omega (arith, upto.below i (omega arith), (ready-parts s clips ready).table),
              get_or-append (clips_at clips positions) (drop (length (clips_at clips positions)) room) 0 i (omega (arith, many)) ∙ clip-at clips positions i h,
            );
            behind = λ e.
                ap (λ (n : ℕ). drop n (over (clips_at clips positions) room)) (sym many) ∙ drop-append_seam (clips_at clips positions) (drop (length (clips_at clips positions)) room) ∙ ap (λ (n : ℕ). drop n room) many;
            first = λ i e. absurd (lt_irrefl 0 (omega (arith, ap (λ (a : Answer). a.code) e)));
          }

-- the first bad position is the one that is told, whatever stands behind it
pub route-stops : (s : Bytes) (clips : Clips) (front rest : List ℕ) (bad : ℕ) (room : Clips) → 0 ≡ refusal s clips → length (front ++ bad ∷ rest) ≤ most_stops
    → ((j : ℕ) → j < length front → get_or front j 0 < (check s).first) → (check s).first ≤ bad
    → route_of s clips (front ++ bad ∷ rest) room ≡ record { answer = numbered 3 (length front); room = room }
route-stops s clips front rest bad room ready few good high =
    let all : List ℕ = front ++ bad ∷ rest in
    let size : length all ≡ length front + length (bad ∷ rest) = length-append front (bad ∷ rest) in
    let upto : Good (check s).first all (length front) = record {
      passed = omega (arith, size);
      below = λ j h. subst (λ (p : ℕ). p < (check s).first) (sym (get_or-append front (bad ∷ rest) 0 j h)) (good j h);
    } in
    let is : length front ≡ first_bad (check s).first all = bad-here all (length front) upto (omega (arith, size)) (subst (λ (p : ℕ). (check s).first ≤ p) (sym (get_or-append_seam front bad rest 0)) high) in
    sym (route-bad s clips all room ready few (length front) is (λ e. lt_irrefl (length all) (omega (arith, size))))

-- ---- the premises can be met

-- what is asked of a book, a table, a text and a route holds of the document's book in blocks of two and three clips
pub announcer-met : (◌≡◌ {A = ℕ} 0 (refusal example_by2 clips3)) × (clip_of example_by2 clips3 (text "Mar") ≡ given 1 511) × (clip_of example_by2 clips3 (text "Ma") ≡ given 0 3)
    × (route_of example_by2 clips3 (2 ∷ 0 ∷ 3 ∷ 9 ∷ []) (lent_room 4) ≡ record { answer = numbered 3 2; room = lent_room 4 })
unfolding shared less begins same depth glue groups widest row_by table_within node_table table numbers joined entry blocks_from front blocks offsets entry_part block_part all_fields trailer book_by decode_from decode number rising sound fits_by names_of is_book_by opened check_of check count exact_from exact place range ask may_end lit answer names_answer question_of question refusal spoken clip_of first_bad route_of
announcer-met = (refl, refl, refl, refl)
