-- The right edge of the tree of some names, as far as they were gone through: its open forks, and where a question ends in each.
--     Fits              a name goes the question's way at a depth
--     Under             names that stand in one child of a fork of depth d: each shares d symbols with the first, and has its symbol there
--     Chosen            where a question ends among the children of a fork that are finished: p
--     Kids              the finished children of a fork of depth d, from name a up to name c, with which the open one begins
--     Frame, Edge       an open fork: its depth, its first name, and where a question ends in its finished children; the open forks, the deepest first,
--                       where the open child of that one begins with name c
--     Lower, Inside     the fork above is less deep; the names from c on stand in one child of the deepest fork
--     Open              the names from c up to hi, which are the subtree under these forks, and where a question ends in it
-- The laws are in proofs/Edges.antt. Assumes nothing: these are definitions.
use Rattle.std.specs.Prelude.{ℕ, ◌≤◌, ◌<◌, ◌≡◌, List, [], ◌∷◌, length}
use Rattle.words.specs.Words.{Words, at, shared}
use Rattle.words.specs.Rising.{nth}
use Rattle.descent.specs.Vocabulary.{reach_in}

pub record Fits (q x : List ℕ) (d : ℕ) : Type 0 where
  pub long : d ≤ length q
  pub same : at x d ≡ at q d

abbrev pub Under : Words → ℕ → ℕ → ℕ → Type 0
Under ws d c hi = (j : ℕ) → c ≤ j → j < hi → (d ≤ shared (nth ws c) (nth ws j)) × (at (nth ws j) d ≡ at (nth ws c) d)

-- the question ends above the fork's depth; no finished child has its symbol; or one has, with the names from mid up to next
pub data Chosen (q : List ℕ) (ws : Words) (d a c p : ℕ) : Type 0 where
  short : length q < d → p ≡ a → Chosen q ws d a c p
  none : d ≤ length q → ((j : ℕ) → a ≤ j → j < c → at (nth ws j) d ≡ at q d → ⊥) → p ≡ a → Chosen q ws d a c p
  hit : (mid next : ℕ) → a ≤ mid → mid < next → next ≤ c → d ≤ length q
      → ((j : ℕ) → a ≤ j → j < mid → at (nth ws j) d ≡ at q d → ⊥)
      → ((j : ℕ) → mid ≤ j → j < next → at (nth ws j) d ≡ at q d)
      → ((j : ℕ) → next ≤ j → j < c → at q d < at (nth ws j) d)
      → p ≡ (reach_in q ws mid next).position → Chosen q ws d a c p

-- all share d symbols, and each of them has a lesser one at d than the open child
pub record Kids (q : List ℕ) (ws : Words) (d a c p : ℕ) : Type 0 where
  pub order : a ≤ c
  pub share : (j : ℕ) → a ≤ j → j ≤ c → d ≤ shared (nth ws a) (nth ws j)
  pub below : (j : ℕ) → a ≤ j → j < c → at (nth ws j) d < at (nth ws c) d
  pub chosen : Chosen q ws d a c p

pub record Frame : Type 0 where
  pub depth : ℕ
  pub first : ℕ
  pub reach : ℕ

abbrev pub Lower : List Frame → ℕ → Type 0
Lower [] d = Unit {0}
Lower (f ∷ fs) d = f.depth < d

abbrev pub Inside : Words → List Frame → ℕ → ℕ → Type 0
Inside ws [] c hi = Unit {0}
Inside ws (f ∷ fs) c hi = Under ws f.depth c hi

-- the first name of all begins the tree
pub data Edge (q : List ℕ) (ws : Words) : List Frame → ℕ → Type 0 where
  root : Edge q ws [] 0
  over : {f : Frame} {fs : List Frame} {c : ℕ} → Kids q ws f.depth f.first c f.reach → f.first < c → Lower fs f.depth → Edge q ws fs f.first → Edge q ws (f ∷ fs) c

pub record Open (q : List ℕ) (ws : Words) (fs : List Frame) (c hi r : ℕ) : Type 0 where
  pub edge : Edge q ws fs c
  pub some : c < hi
  pub within : hi ≤ length ws
  pub inside : Inside ws fs c hi
  pub ends : r ≡ (reach_in q ws c hi).position
