-- The loop that puts a route's clips at the front of a room.
--     Putting           after i positions their clips stand there, and behind them the room is as it was
--     putting-more      one clip more
-- Assumes nothing.
use Prim.Native.Nat.{ℕ, suc, ◌+◌, ◌<◌, ◌≤◌}
use native.Mathlib.Omega.{arith}
use mathlib.Core.Path.{◌≡◌, sym, ap, ap₂, ◌∙◌}
use mathlib.Core.List.{List, ◌∷◌, ◌++◌}
use lib.ListN.{drop, get_or, length, length-map, set, take}
use lib.Seq.{append_snoc, drop-cons, length-take-le, set_at, take-suc}
use Rattle.answers.specs.Announcing.{Clips}
use Rattle.answers.specs.Routes.{clips_at}
use Rattle.answers.proofs.Routes.{clip-at}
use Rattle.announcer.specs.Asking.{Inside}

pub record Putting (clips : Clips) (ps : List ℕ) (old room : Clips) (i : ℕ) : Type 0 where
  pub passed : i ≤ length ps
  pub stands : room ≡ take i (clips_at clips ps) ++ drop i old

module _ {clips : Clips} {ps : List ℕ} {old room : Clips} {i : ℕ} (inside : Inside clips ps old) (p : Putting clips ps old room i) where
  abbrev out : Clips
  out = clips_at clips ps

  many : length out ≡ length ps
  many = length-map ps (λ j. get_or clips j 0)

  front : length (take i out) ≡ i
  front = length-take-le i out (omega (arith, many, p.passed))

  pub putting-more : i < length ps → Putting clips ps old (set room i (get_or clips (get_or ps i 0) 0)) (i + 1)
  putting-more h =
      let one : i + 1 ≡ suc i = omega arith in
      let clip : get_or clips (get_or ps i 0) 0 ≡ get_or out i 0 = sym (clip-at clips ps i h) in
      let behind : drop i old ≡ get_or old i 0 ∷ drop (suc i) old = drop-cons old i 0 (omega (arith, inside.enough)) in
      record {
        passed = omega arith;
        stands =
            ap₂ (λ (r : Clips) (c : ℕ). set r i c) (p.stands ∙ ap (λ (t : Clips). take i out ++ t) behind) clip
            ∙ set_at (take i out) (get_or old i 0) (drop (suc i) old) (get_or out i 0) i front
            ∙ sym (append_snoc (take i out) (get_or out i 0) (drop (suc i) old))
            ∙ ap (λ (t : Clips). t ++ drop (suc i) old) (sym (take-suc out i 0 (omega (arith, many))))
            ∙ ap (λ (n : ℕ). take n out ++ drop n old) (sym one);
      }
