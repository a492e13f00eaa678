-- Two rules for a walk by hand, over any model: what `while` and `if` are in MIR. They say nothing of the crate.
--     tests             the test of a `while`: the turn goes on, knowing that it holds, or the loop is left, knowing that it fails
--     not-not, zero-holds     tests as truth values, taken twice back; of a number that is 0
--     guards            an `if` with no `else`: the arm runs, knowing that the test holds, or the rest does, knowing that it fails
-- Assumes `Logic`.
use Prim.Native.Nat.{ℕ}
use mathlib.Core.Path.{◌≡◌, subst, sym}
use mathlib.Core.Bool.{Bool, false, not, true}
use mathlib.Core.List.{List}
use lib.Dec.{T, eqb}
use seplogic.Ra.Ura.{Ura}
use mir.Syntax.{Body, Opd as Operand, cond, exit, seq, skip}
use mir.Val.{vbool}
use prog.Wp.{Calls, Env, Loops, Wp, after_seq, exits}
use types.Logic.{Logic}
use types.Kit.{Item, Post as After, Seq, ◌$◌, any_q, post, prop, runs}
use types.Run.{Opd, branches, first, jumps, skips}

pub not-not : (t : Bool) → T (not (not t)) → T t
not-not true h = h
not-not false h = h

pub zero-holds : {n : ℕ} → n ≡ 0 → T (eqb n 0)
zero-holds e = subst (λ (k : ℕ). T (eqb k 0)) (sym e) tt

module _ {M : Type 1} {𝓤 : Ura M} {𝓛 : Logic 𝓤} {K : Type 0} {Γ : List (Item 𝓤)} {E : Env 𝓤 𝓛.H} {C : Calls 𝓤 𝓛.H} {Λ : Loops 𝓤 𝓛.H}
    {q : After 𝓤 𝓛.H} where
  open 𝓛 use {H}

  pub tests : K → {c : Operand} {n : ℕ} {b : Body} {y : Bool} → Opd K 𝓛 Γ E c (vbool y) → (T y → Seq K 𝓛 Γ (runs C Λ E b q))
      → (T (not y) → Seq K 𝓛 Γ (prop (post 𝓤 H q (exits n)))) → Seq K 𝓛 Γ (runs C Λ E (seq (cond c skip (exit n)) b) q)
  tests t o goes_on leaves = first t $ branches t o (λ h. skips t $ record { prf = (goes_on h).prf }) (λ h. jumps t $ record { prf = (leaves h).prf })

  pub guards : K → {c : Operand} {a b : Body} {y : Bool} → Opd K 𝓛 Γ E c (vbool y)
      → (T y → Seq K 𝓛 Γ (runs C Λ E a (any_q (after_seq 𝓤 H (Wp 𝓤 H C Λ E b (post 𝓤 H q)) (post 𝓤 H q))))) → (T (not y) → Seq K 𝓛 Γ (runs C Λ E b q))
      → Seq K 𝓛 Γ (runs C Λ E (seq (cond c a skip) b) q)
  guards t o arm rest = first t $ branches t o arm (λ h. skips t $ record { prf = (rest h).prf })
