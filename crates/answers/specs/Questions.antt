-- Document 01, 'Questions': the four kinds, over the plain list of words; nearest's position by the descent over groups of words.
--     exact, place, range, nearest, reached    the four; the position of the first word of the node where the descent stops
--     ask, answer       a kind by its number, 1 to 4 in this order, 5 is CR 1's; for names and a question in bytes, under a rule: of nearest's number what can be lit (CR 3)
-- The laws are in proofs/Places.antt and proofs/Nearest.antt. Assumes nothing: these are definitions.
use Rattle.std.specs.Prelude.{ℕ, zero, suc, ◌+◌, Bool, List, [], ◌∷◌, map, ltb, eqb, get_or, length}
use Rattle.words.specs.Words.{Bytes, Words, Rule, pick, word, at, shared, less, begins, same}
use Rattle.format.specs.Nodes.{first, depth, groups}
use Rattle.answers.specs.Stops.{Stop, stop_at, visited}
use Rattle.answers.specs.Lit.{lit}
use Rattle.answers.specs.Widths.{width}

abbrev pub Pair : Type 0
Pair = ℕ × ℕ

-- how many words pass a test
unfoldable pub count : (List ℕ → Bool) → Words → ℕ
count f [] = 0
count f (w ∷ ws) = pick (f w) (suc (count f ws)) (count f ws)

-- the first word that is q, numbered from i
unfoldable pub exact_from : ℕ → List ℕ → Words → Pair
exact_from i q [] = (0, 0)
exact_from i q (w ∷ ws) = let more = exact_from (suc i) q ws in pick (same w q) (i, 1) more

unfoldable pub exact : List ℕ → Words → Pair
exact q ws = exact_from 0 q ws

unfoldable pub place : List ℕ → Words → ℕ
place q ws = count (λ w. less w q) ws

unfoldable pub range : List ℕ → Words → Pair
range q ws = (place q ws, count (begins q) ws)

-- along a row of groups, the first word number i, down into the one with symbol s at d; `stay` where none fits
unfoldable pub child_of : (ℕ → Words → Stop) → ℕ → ℕ → Stop → ℕ → List Words → Stop
child_of down d s stay i [] = stay
child_of down d s stay i (g ∷ gs) =
    let here = down i g in
    let more = child_of down d s stay (i + length g) gs in
    pick (eqb s (at (first g) d)) here more

-- From a group whose first word is number i: stop at a leaf, where the depth exceeds q's length, or where no child fits. Its node is visited.
unfoldable pub reach_within : ℕ → List ℕ → ℕ → Words → Stop
reach_within zero q i ws = stop_at i
reach_within (suc n) q i [] = stop_at i
reach_within (suc n) q i (w ∷ []) = visited (stop_at i)
reach_within (suc n) q i (w ∷ v ∷ vs) =
    let d = depth w (v ∷ vs) in
    let down = child_of (λ j g. reach_within n q j g) d (at q d) (stop_at i) i (groups d (w ∷ v ∷ vs)) in
    visited (pick (ltb (length q) d) (stop_at i) down)

unfoldable pub reached : List ℕ → Words → ℕ
reached q ws = (reach_within (length ws) q 0 ws).position

unfoldable pub nearest : List ℕ → Words → Pair
nearest q ws = (reached q ws, shared q (get_or ws (reached q ws) []))

unfoldable pub ask : ℕ → List ℕ → Words → Pair
ask zero q ws = (0, 0)
ask (suc zero) q ws = exact q ws
ask (suc (suc zero)) q ws = (place q ws, 0)
ask (suc (suc (suc zero))) q ws = range q ws
ask (suc (suc (suc (suc zero)))) q ws = nearest q ws
ask (suc (suc (suc (suc (suc zero))))) q ws = (width q ws, 0)
ask (suc (suc (suc (suc (suc (suc none)))))) q ws = (0, 0)

unfoldable pub answer : Rule → ℕ → Bytes → List Bytes → Pair
answer ρ kind q xs = let a = ask kind (word ρ q) (map (word ρ) xs) in pick (eqb kind 4) (a.0, lit q a.1) a
