-- What counting the nodes asks and gives: a leaf for each name, and a node for each frame.
--     Deeper, StaysOpen     frames that are deeper than a number; the top one of those that are not
--     CountAsk, NodeCount   what a judged list notes of its names; how many nodes any list has, by any rule, of which that is noted
-- The laws are in proofs/. Assumes nothing: these are definitions.
use Rattle.std.specs.Prelude.{ℕ, ◌≤◌, ◌<◌, ◌≡◌, List, length, get_or}
use Rattle.words.specs.Words.{Bytes, Rule}
use Rattle.format.specs.Nodes.{table}
use Rattle.records.specs.Lists.{Ready, words}

-- the frames above number r, up to number top, are deeper than left
pub record Deeper (depths : List ℕ) (left top r : ℕ) : Type 0 where
  pub within : r ≤ top
  pub deeper : (i : ℕ) → r < i → i ≤ top → left < get_or depths i 0

-- and number r is not
pub record StaysOpen (depths : List ℕ) (left top r : ℕ) : Type 0 where
  pub above : Deeper depths left top r
  pub shallow : get_or depths r 0 ≤ left

pub record CountAsk (n : ℕ) (shares : List ℕ) : Type 0 where
  pub ρ : Rule
  pub list : Bytes
  pub lens : List ℕ
  pub counts : List ℕ
  pub ready : Ready ρ list n lens counts shares

unfoldable pub NodeCount : ℕ → List ℕ → ℕ → Type 0
NodeCount n shares r = (ρ : Rule) (s : Bytes) (lens counts : List ℕ) → Ready ρ s n lens counts shares → r ≡ length (table (words ρ s))
