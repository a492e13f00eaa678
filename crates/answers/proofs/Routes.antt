-- Laws of a route.
--     Good, good_start, good_more    the positions before an index are below n
--     bad-here, bad-none, bad-good, bad-is     the first bad position: it is found, or there is none; those before it are below n, and it is not
--     clip-at           clip number i of a route is that of position number i
--     route-refused, route-long, route-bad, route-short, route-given     a route's call, way by way
-- Assumes nothing.
use Prim.Native.Nat.{ℕ, zero, suc, ◌+◌, ◌*◌, ◌≤◌, ◌<◌}
use native.Mathlib.Nat.{eq-or-lt_of_le, le_of_suc-le-suc, not-suc-le-zero}
use native.Mathlib.Omega.{arith}
use mathlib.Core.Path.{◌≡◌, refl, sym, ap, subst}
use mathlib.Core.Bool.{Bool, true, false}
use mathlib.Core.List.{List, [], ◌∷◌}
use mathlib.Core.Logic.{⊎_elim}
use lib.Dec.{ltb}
use lib.ListN.{get_or, length}
use borrow.Author.Tests.{eq-eqb, le-leb, le-ltb, lt-leb, lt-ltb, ltb-false, ltb-true, ne_eqb}
use Rattle.words.specs.Words.{Bytes, pick}
use Rattle.format.specs.Outcomes.{given, numbered, over, refused}
use Rattle.answers.specs.Announcing.{Clips, refusal}
use Rattle.answers.specs.Calls.{check}
use Rattle.answers.specs.Routes.{clips_at, first_bad, most_stops, route_of}

-- ---- the first bad position

-- the first i positions are below n
pub record Good (n : ℕ) (ps : List ℕ) (i : ℕ) : Type 0 where
  pub passed : i ≤ length ps
  pub below : (j : ℕ) → j < i → get_or ps j 0 < n

module _ {n : ℕ} where
  pub good_start : (ps : List ℕ) → Good n ps 0
  good_start ps = record { passed = omega arith; below = λ j h. absurd (not-suc-le-zero h) }

  pub good_more : {ps : List ℕ} {i : ℕ} → Good n ps i → i < length ps → get_or ps i 0 < n → Good n ps (i + 1)
  good_more {ps} {i} g h l = record {
    passed = omega arith;
    below = λ j k. ⊎_elim (λ (e : j ≡ i). subst (λ (m : ℕ). get_or ps m 0 < n) (sym e) l) (λ (b : j < i). g.below j b) (eq-or-lt_of_le (le_of_suc-le-suc (omega arith)));
  }

  rest : {p : ℕ} {ps : List ℕ} {i : ℕ} → Good n (p ∷ ps) (suc i) → Good n ps i
  rest g = record { passed = omega (arith, g.passed); below = λ j h. g.below (suc j) (omega arith) }

  pub bad-here : (ps : List ℕ) (i : ℕ) → Good n ps i → i < length ps → n ≤ get_or ps i 0 → i ≡ first_bad n ps
  unfolding first_bad
  bad-here [] i g h l = absurd (not-suc-le-zero h)
  bad-here (p ∷ ps) zero g h l = rw (le-ltb p n l) refl
  bad-here (p ∷ ps) (suc i) g h l = rw (lt-ltb p n (g.below 0 (omega arith))) (ap suc (bad-here ps i (rest g) (omega arith) l))

  pub bad-none : (ps : List ℕ) (i : ℕ) → Good n ps i → length ps ≤ i → i ≡ first_bad n ps
  unfolding first_bad
  bad-none [] i g l = omega (arith, g.passed)
  bad-none (p ∷ ps) zero g l = absurd (not-suc-le-zero l)
  bad-none (p ∷ ps) (suc i) g l = rw (lt-ltb p n (g.below 0 (omega arith))) (ap suc (bad-none ps i (rest g) (omega arith)))

  -- and the other way round: what the first bad position tells
  pub bad-good : (ps : List ℕ) → Good n ps (first_bad n ps)
  unfolding first_bad
  bad-good [] = good_start []
  bad-good (p ∷ ps) = go (ltb p n) refl (bad-good ps)
    where
      go : (t : Bool) → ltb p n ≡ t → Good n ps (first_bad n ps) → Good n (p ∷ ps) (pick t (suc (first_bad n ps)) 0)
      go false e g = good_start (p ∷ ps)
      go true e g = record { passed = omega (arith, g.passed); below = under }
        where
          under : (j : ℕ) → j < suc (first_bad n ps) → get_or (p ∷ ps) j 0 < n
          under zero h = ltb-true p n e
          under (suc j) h = g.below j (omega arith)

  pub bad-is : (ps : List ℕ) → first_bad n ps < length ps → n ≤ get_or ps (first_bad n ps) 0
  unfolding first_bad
  bad-is [] h = absurd (not-suc-le-zero h)
  bad-is (p ∷ ps) h = go (ltb p n) refl h (bad-is ps)
    where
      go : (t : Bool) → ltb p n ≡ t → pick t (suc (first_bad n ps)) 0 < length (p ∷ ps) → (first_bad n ps < length ps → n ≤ get_or ps (first_bad n ps) 0)
          → n ≤ get_or (p ∷ ps) (pick t (suc (first_bad n ps)) 0) 0
      go false e k more = ltb-false p n e
      go true e k more = more (omega arith)

-- ---- the row of clips

pub clip-at : (clips : Clips) (ps : List ℕ) (i : ℕ) → i < length ps → get_or (clips_at clips ps) i 0 ≡ get_or clips (get_or ps i 0) 0
clip-at clips [] i h = absurd (not-suc-le-zero h)
clip-at clips (p ∷ ps) zero h = refl
clip-at clips (p ∷ ps) (suc i) h = clip-at clips ps i (omega arith)

-- ---- the call

module _ (s : Bytes) (clips : Clips) (positions : List ℕ) (room : Clips) where
  pub route-refused : (code : ℕ) → code ≡ refusal s clips → (code ≡ 0 → ⊥) → record { answer = refused code; room = room } ≡ route_of s clips positions room
  unfolding route_of
  route-refused code e n = rw (sym e, ne_eqb code 0 n) refl

  module _ (ready : 0 ≡ refusal s clips) where
    pub route-long : most_stops < length positions → record { answer = refused 12; room = room } ≡ route_of s clips positions room
    unfolding route_of
    route-long h = rw (sym ready, lt-leb (length positions) most_stops h) refl

    module _ (few : length positions ≤ most_stops) (bad : ℕ) (is : bad ≡ first_bad (check s).first positions) where
      pub route-bad : (bad ≡ length positions → ⊥) → record { answer = numbered 3 bad; room = room } ≡ route_of s clips positions room
      unfolding route_of
      route-bad n = rw (sym ready, le-leb (length positions) most_stops few, sym is, ne_eqb bad (length positions) n) refl

      module _ (good : bad ≡ length positions) where
        pub route-short : length room < length positions → record { answer = refused 4; room = room } ≡ route_of s clips positions room
        unfolding route_of
        route-short h = rw (sym ready, le-leb (length positions) most_stops few, sym is, eq-eqb bad (length positions) good, lt-leb (length positions) (length room) h) refl

        pub route-given : length positions ≤ length room → record { answer = given (2 * length positions) 0; room = over (clips_at clips positions) room } ≡ route_of s clips positions room
        unfolding route_of
        route-given h = rw (sym ready, le-leb (length positions) most_stops few, sym is, eq-eqb bad (length positions) good, le-leb (length positions) (length room) h) refl
