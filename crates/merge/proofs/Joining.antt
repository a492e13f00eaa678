-- Laws of the records of two lists in one row.
--     in-first, in-second       the list that a head stands in
--     Joins, joins-start, joins-ask, joins-less, joins-within, joins-bytes, head-inside, joins-more, joins-all     the walk over both lists
-- Assumes nothing.
use Prim.Native.Nat.{ℕ, ◌+◌, ◌≤◌, ◌<◌, zero-le}
use native.Mathlib.Omega.{arith}
use mathlib.Core.Path.{◌≡◌, refl, sym, ap, ap₂, ◌∙◌}
use mathlib.Core.List.{List, [], ◌∷◌, ◌++◌, append_assoc, append-nil}
use lib.ListN.{drop, length, length-append, length-drop, take}
use Rattle.words.specs.Words.{Bytes, plain}
use Rattle.format.specs.Records.{encode}
use Rattle.format.specs.Merging.{merged}
use Rattle.format.specs.Outcomes.{over}
use Rattle.format.proofs.Records.{encode-append}
use Rattle.numbers.proofs.Parts.{part_length}
use Rattle.records.specs.Putting.{RecordPut}
use Rattle.heads.specs.Heads.{HeadAsk, HeadSays, RestOf, HeadStep, list_at}
use Rattle.heads.specs.declared.Next.{Next}
use Rattle.heads.specs.declared.Side.{Side}
use Rattle.heads.specs.declared.Side.TheVariants.{First, Second}
use Rattle.heads.proofs.Heads.{no-records, some_left}
use Rattle.merge.specs.Joining.{Joined, MergeAsk, MergedInto}

-- the list that a head stands in
pub in-first : {v : Side} (first second : Bytes) → v ≡ First → first ≡ list_at v first second
in-first first second e = rw e refl

pub in-second : {v : Side} (first second : Bytes) → v ≡ Second → second ≡ list_at v first second
in-second first second e = rw e refl

-- ---- the walk over both lists

pub record Joins (first second room₀ room : Bytes) (i j names bytes : ℕ) : Type 0 where
  pub left : i ≤ length first
  pub right : j ≤ length second
  pub kept : length room ≡ length room₀
  pub few : names ≤ bytes
  pub short : bytes ≤ i + j
  pub state : (xs ys : List Bytes) → RestOf first 0 xs → RestOf second 0 ys → Joined xs ys first second room₀ room i j names bytes

pub joins-start : (first second room : Bytes) → Joins first second room room 0 0 0 0
unfolding encode
joins-start first second room = record {
  left = zero-le;
  right = zero-le;
  kept = refl;
  few = zero-le;
  short = zero-le;
  state = λ xs ys a b. record { done = []; xs-left = xs; ys-left = ys; whole = refl; ahead = a; beside = b; counted = refl; sized = refl; front = λ f. refl };
}

module _ {first second room₀ room : Bytes} {i j names bytes : ℕ} (k : Joins first second room₀ room i j names bytes) where
  module _ (q : MergeAsk first second) where
    now : Joined q.xs q.ys first second room₀ room i j names bytes
    now = k.state q.xs q.ys q.ahead q.beside

    pub joins-ask : i + j < length first + length second → HeadAsk first i second j
    joins-ask h = record { xs = now.xs-left; ys = now.ys-left; ahead = now.ahead; beside = now.beside; some = some_left now.ahead now.beside h }

    module _ (h : i + j < length first + length second) {r : Next} (says : HeadSays first i second j r) where
      head_step : HeadStep first second i j now.xs-left now.ys-left r
      unfolding now joins-ask
      head_step = says now.xs-left now.ys-left now.ahead now.beside (joins-ask h).some

      pub joins-less : i + j < r.left + r.right
      joins-less = omega (arith, head_step.onward, head_step.some)

      pub joins-within : r.left + r.right ≤ length first + length second
      joins-within = omega (arith, head_step.ahead.within, head_step.beside.within)

      pub joins-bytes : bytes + r.size ≤ r.left + r.right
      joins-bytes = omega (arith, head_step.onward, k.short)

      -- the record is in the list that the head says
      module _ (list : Bytes) (in_List : list ≡ list_at r.side first second) where
        pub head-inside : r.from + r.size ≤ length list
        head-inside = omega (arith, head_step.fits, ap length in_List)

        pub joins-more : {new : Bytes} → RecordPut list r.from r.size room new bytes → Joins first second room₀ new r.left r.right (names + 1) (bytes + r.size)
        joins-more {new} put = record {
          left = head_step.ahead.within;
          right = head_step.beside.within;
          kept = put.kept ∙ k.kept;
          few = omega (arith, k.few, head_step.some);
          short = omega (arith, k.short, head_step.onward);
          state = λ xs ys a b. more xs ys (k.state xs ys a b);
        }
          where
            more : (xs ys : List Bytes) → Joined xs ys first second room₀ room i j names bytes → Joined xs ys first second room₀ new r.left r.right (names + 1) (bytes + r.size)
            more xs ys o =
                let t = says o.xs-left o.ys-left o.ahead o.beside (some_left o.ahead o.beside h) in
                let rec : take r.size (drop r.from list) ≡ encode (t.name ∷ []) = ap (λ (l : Bytes). take r.size (drop r.from l)) in_List ∙ t.record_is in
                let size : length (encode (t.name ∷ [])) ≡ r.size = ap length (sym rec) ∙ part_length list r.from r.size head-inside in
                let written : encode (o.done ++ (t.name ∷ [])) ≡ encode o.done ++ encode (t.name ∷ []) = encode-append o.done (t.name ∷ []) in
                record {
                  done = o.done ++ (t.name ∷ []);
                  xs-left = t.xs-left;
                  ys-left = t.ys-left;
                  whole = o.whole ∙ ap (λ (l : List Bytes). o.done ++ l) t.is ∙ sym (append_assoc o.done (t.name ∷ []) (merged plain t.xs-left t.ys-left));
                  ahead = t.ahead;
                  beside = t.beside;
                  counted = omega (arith, o.counted, length-append o.done (t.name ∷ []));
                  sized = omega (arith, o.sized, ap length written, length-append (encode o.done) (encode (t.name ∷ [])), size);
                  front = λ f. put.put (omega (arith, k.kept)) (encode o.done) room₀ (o.front (omega arith)) (sym o.sized) (sym k.kept) ∙ ap (λ (l : Bytes). over (encode o.done ++ l) room₀) rec ∙ ap (λ (l : Bytes). over l room₀) (sym written);
                }

  pub joins-all : length first + length second ≤ i + j → MergedInto first second room₀ room names bytes
  unfolding merged
  joins-all h = record { kept = k.kept; all = λ xs ys a b. ended xs ys (k.state xs ys a b) }
    where
      ended : (xs ys : List Bytes) → Joined xs ys first second room₀ room i j names bytes
          → (names ≡ length (merged plain xs ys)) × (bytes ≡ length (encode (merged plain xs ys))) × (bytes ≤ length room₀ → room ≡ over (encode (merged plain xs ys)) room₀)
      ended xs ys o =
          let none : merged plain o.xs-left o.ys-left ≡ [] = ap₂ (merged plain) (nothing o.xs-left o.ahead (omega (arith, k.left, k.right))) (nothing o.ys-left o.beside (omega (arith, k.left, k.right))) in
          let all : o.done ≡ merged plain xs ys = sym (o.whole ∙ ap (λ (l : List Bytes). o.done ++ l) none ∙ append-nil o.done) in
          (o.counted ∙ ap length all, o.sized ∙ ap (λ (l : List Bytes). length (encode l)) all, λ f. o.front f ∙ ap (λ (l : List Bytes). over (encode l) room₀) all)
        where
          nothing : {s : Bytes} {at : ℕ} (zs : List Bytes) → RestOf s at zs → at ≡ length s → zs ≡ []
          nothing {s} {at} zs r e = no-records zs (omega (arith, ap length r.bytes, length-drop at s))
