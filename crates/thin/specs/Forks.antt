-- The open forks as the code has them, in one array.
--     depths_of, firsts_of, reaches_of     the numbers of each, as three rows
--     CloseIn, ClosedIn, GrowIn, GrownIn   what closing forks and going one name further ask and give, of a right edge
-- The laws are in proofs/Forks.antt. Assumes nothing: these are definitions.
use Rattle.std.specs.Prelude.{ℕ, List, map}
use Rattle.words.specs.Words.{Bytes}
use Rattle.thin.specs.Frames.{CloseAsk, CloseSays, GrowAsk, GrowSays}
use Rattle.thin.specs.declared.Closed.{Closed}
use Rattle.thin.specs.declared.Fork.{Fork}
use Rattle.thin.specs.declared.RightEdge.{RightEdge}

unfoldable pub depths_of : List Fork → List ℕ
depths_of rows = map (λ (f : Fork). f.depth) rows

unfoldable pub firsts_of : List Fork → List ℕ
firsts_of rows = map (λ (f : Fork). f.first) rows

unfoldable pub reaches_of : List Fork → List ℕ
reaches_of rows = map (λ (f : Fork). f.reach) rows

abbrev pub CloseIn : Bytes → Bytes → Bytes → RightEdge → ℕ → ℕ → Type 0
CloseIn b question name e c limit = CloseAsk b question name (depths_of e.forks) (firsts_of e.forks) (reaches_of e.forks) e.count c limit

abbrev pub ClosedIn : Bytes → Bytes → RightEdge → ℕ → ℕ → Closed → Type 0
ClosedIn b question e c limit r = CloseSays b question (depths_of e.forks) (firsts_of e.forks) (reaches_of e.forks) e.count c limit r

abbrev pub GrowIn : Bytes → Bytes → Bytes → RightEdge → ℕ → ℕ → Type 0
GrowIn b question name e c h = GrowAsk b question name (depths_of e.forks) (firsts_of e.forks) (reaches_of e.forks) e.count c h

abbrev pub GrownIn : Bytes → Bytes → RightEdge → ℕ → Type 0
GrownIn b question e c = GrowSays b question (depths_of e.forks) (firsts_of e.forks) (reaches_of e.forks) c e.count
