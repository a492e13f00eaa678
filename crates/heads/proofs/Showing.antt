-- The lesser head behind so many records of each of two lists that read well.
--     Behind, behind-ask     what passing records has shown; the lists go on with some names
--     showing-none, showing-next     ways out of `head_judged`
-- Assumes nothing.
use Prim.Native.Nat.{ℕ, ◌+◌, ◌^◌, ◌≤◌, ◌<◌}
use native.Mathlib.Omega.{arith}
use mathlib.Core.Path.{◌≡◌, sym, ap, ap₂, ◌∙◌}
use mathlib.Core.List.{List, []}
use lib.ListN.{drop, get_or, length, length-drop}
use lib.Seq.{get_or-drop}
use mir.Syntax.{w64}
use mir.Val.{Fits}
use Rattle.words.specs.Words.{Bytes}
use Rattle.format.specs.Alone.{BothRead}
use Rattle.answers.specs.Heads.{Head as Numbers, head_at, head_of, lesser_head}
use Rattle.answers.proofs.Heads.{head_read}
use Rattle.heads.specs.Heads.{HeadAsk, HeadSays, RestOf, HeadStep, list_at, shown_by}
use Rattle.heads.specs.Passing.{ListAsk, PassedTo}
use Rattle.heads.specs.declared.Next.{Next}
use Rattle.heads.specs.declared.Side.{Side}
use Rattle.heads.specs.declared.Side.TheVariants.{First, Second}
use Rattle.heads.proofs.Heads.{no-records, rest_of, some_left}

module _ {s t : Bytes} (b : BothRead s t) where
  pub first-ask : ListAsk s
  first-ask = record { xs = b.xs; rest = rest_of b.first }

  pub second-ask : ListAsk t
  second-ask = record { xs = b.ys; rest = rest_of b.second }

  module _ {c d i j : ℕ} (p : PassedTo s c i) (q : PassedTo t d j) where
    ahead : RestOf s i (drop c b.xs)
    ahead = p.rest b.xs (rest_of b.first)

    beside : RestOf t j (drop d b.ys)
    beside = q.rest b.ys (rest_of b.second)

    pub passed-within : i + j ≤ length s + length t
    passed-within = omega (arith, ahead.within, beside.within)

    -- a list that has ended has no names left
    none_left : {l : Bytes} {at : ℕ} {zs : List Bytes} → RestOf l at zs → at ≡ length l → zs ≡ []
    none_left {l} {at} {zs} r e = no-records zs (omega (arith, ap length r.bytes, length-drop at l))

    pub showing-none : i + j ≡ length s + length t → {h : Numbers} → h ≡ (1, 0, 0) → h ≡ head_of s t c d
    unfolding lesser_head
    showing-none e {h} f =
        f ∙ sym (head_read b.first b.second c d
        ∙ ap₂ (lesser_head (head_at 1 c b.xs) (head_at 2 d b.ys)) (none_left ahead (omega (arith, ahead.within, beside.within))) (none_left beside (omega (arith, ahead.within, beside.within))))

    module _ (n : i + j ≡ length s + length t → ⊥) where
      pub behind-ask : HeadAsk s i t j
      behind-ask = record { xs = drop c b.xs; ys = drop d b.ys; ahead = ahead; beside = beside; some = some_left ahead beside (omega (arith, passed-within)) }

      module _ {r : Next} (says : HeadSays s i t j r) where
        step : HeadStep s t i j (drop c b.xs) (drop d b.ys) r
        step = says (drop c b.xs) (drop d b.ys) ahead beside (some_left ahead beside (omega (arith, passed-within)))

        pub head-some : (k : ℕ) → k ≤ 1 → k ≤ r.size
        head-some k h = omega (arith, step.some)

        head-low : r.from + r.size ≤ length s + length t
        head-low = go r.side step.fits
          where
            go : (v : Side) → r.from + r.size ≤ length (list_at v s t) → r.from + r.size ≤ length s + length t
            go First h = omega arith
            go Second h = omega arith

        pub start_fits : (k : ℕ) → k ≤ 1 → length s + length t < 2 ^ 64 → Fits w64 (r.from + k)
        start_fits k l h = omega (arith, head-low, step.some)

        -- the head of a list behind c records, by its place
        own : (zs : List Bytes) (e : ℕ) → get_or (drop e zs) 0 [] ≡ get_or zs e []
        own zs e = get_or-drop e zs 0 [] ∙ (let z : e + 0 ≡ e = omega arith in ap (λ (k : ℕ). get_or zs k []) z)

        pub showing-next : shown_by r ≡ head_of s t c d
        showing-next =
            step.lesser
            ∙ ap₂ (λ (one other : Numbers). lesser_head one other (drop c b.xs) (drop d b.ys))
            (ap₂ (λ (k : ℕ) (z : Bytes). (1, k + 1, length z)) (p.place b.xs (rest_of b.first)) (own b.xs c))
            (ap₂ (λ (k : ℕ) (z : Bytes). (2, k + 1, length z)) (q.place b.ys (rest_of b.second)) (own b.ys d))
            ∙ sym (head_read b.first b.second c d)
