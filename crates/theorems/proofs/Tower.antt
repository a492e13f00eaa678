-- The longest path that can be had: a, aa, .., 200 a's, and b. Its names make a path of 201 nodes.
--     tower             words of one symbol, each one longer than the one before
--     tower-sound, path-reached    those names are sound, and a path over them has 201 nodes
-- Assumes nothing.
use Prim.Native.Nat.{ℕ, zero, suc, ◌≤◌, ◌<◌}
use native.Mathlib.Nat.{le_of_suc-le-suc, not-suc-le-zero}
use native.Mathlib.Omega.{arith}
use mathlib.Core.Path.{◌≡◌, refl, sym, ap, ◌∙◌, subst}
use mathlib.Core.Bool.{true}
use mathlib.Core.List.{List, [], ◌∷◌, ◌++◌, map, append-nil}
use lib.ListN.{length, get_or, replicate, length-replicate}
use Rattle.words.specs.Rising.{All, cons, nil}
use Rattle.words.specs.Words.{Bytes, Words, at, less, plain, shared, word}
use Rattle.words.proofs.Lists.{all_map}
use Rattle.words.proofs.Words.{shared_same}
use Rattle.format.specs.Nodes.{depth, glue, groups}
use Rattle.format.specs.Records.{rising, sound}
use Rattle.format.proofs.Groups.{groups-run}
use Rattle.theorems.specs.Demands.{Path, down, node_depth, stop}

-- n words of the symbol c, the first d long
abbrev tower : ℕ → ℕ → ℕ → Words
tower c d zero = []
tower c d (suc n) = replicate d c ∷ tower c (suc d) n

line_at : (c d e : ℕ) → d < e → at (replicate e c) d ≡ c
line_at c d zero h = absurd (not-suc-le-zero h)
line_at c zero (suc e) h = refl
line_at c (suc d) (suc e) h = line_at c d e (le_of_suc-le-suc h)

line-end : (c d : ℕ) → at (replicate d c) d ≡ 0
line-end c zero = refl
line-end c (suc d) = line-end c d

line-shared : (c d e : ℕ) → d ≤ e → shared (replicate d c) (replicate e c) ≡ d
unfolding shared
line-shared c zero e h = refl
line-shared c (suc d) zero h = absurd (not-suc-le-zero h)
line-shared c (suc d) (suc e) h = shared_same c c (replicate d c) (replicate e c) refl ∙ ap suc (line-shared c d e (le_of_suc-le-suc h))

tower-at : (c d e n : ℕ) → d < e → All (λ y. at y d ≡ c) (tower c e n)
tower-at c d e zero h = nil
tower-at c d e (suc n) h = cons {a = replicate e c} (line_at c d e h) (tower-at c d (suc e) n (omega arith))

tower-depth : (c d e n : ℕ) → d ≤ e → depth (replicate d c) (tower c e n) ≡ d
unfolding depth
tower-depth c d e zero h = length-replicate d c
tower-depth c d e (suc n) h = omega (arith, line-shared c d e h, tower-depth c d (suc e) n (omega arith))

-- a node of the tower has two children: its first word, and the others
tower-groups : (c d n : ℕ) → 0 < c → groups d (tower c d (suc (suc n))) ≡ (replicate d c ∷ []) ∷ tower c (suc d) (suc n) ∷ []
unfolding groups
tower-groups c d n h =
    let w : List ℕ = replicate (suc d) c in
    let g : Words = tower c (suc (suc d)) n in
    let is : at w d ≡ c = line_at c d (suc d) (omega arith) in
    groups-run d (replicate d c) [] (tower c (suc d) (suc n)) nil
    (all_map (λ y e. omega (arith, line-end c d)) (tower-at c d (suc d) (suc n) (omega arith)))
    ∙ ap (λ (gs : List Words). (replicate d c ∷ []) ∷ gs)
    (ap (λ (vs : Words). groups d (w ∷ vs)) (sym (append-nil g))
    ∙ groups-run d w g [] (all_map (λ y e. e ∙ sym is) (tower-at c d (suc (suc d)) n (omega arith))) nil)

tower-path : (c d n : ℕ) → 0 < c → (ds : List ℕ) × Path (tower c d (suc n)) ds × (length ds ≡ suc n)
unfolding node_depth
tower-path c d zero h = (suc (length (replicate d c)) ∷ [], stop refl, refl)
tower-path c d (suc n) h =
    let t = tower-path c (suc d) n h in
    let e : groups d (tower c d (suc (suc n))) ≡ (replicate d c ∷ []) ∷ tower c (suc d) (suc n) ∷ [] = tower-groups c d n h in (
      d ∷ t.0,
      down {ws = tower c d (suc (suc n))} (sym (tower-depth c d (suc d) (suc n) (omega arith))) (omega arith) 1 (omega (arith, ap length e))
          (subst (λ (gs : List Words). Path (get_or gs 1 []) t.0) (sym e) t.1),
      ap suc t.2,
    )

-- a, aa, .., 200 a's, and b
abbrev pub tower_names : List Bytes
tower_names = tower 97 1 200 ++ ((98 ∷ []) ∷ [])

abbrev tower_words : Words
tower_words = tower 98 1 200 ++ ((99 ∷ []) ∷ [])

tower-words : map (word plain) tower_names ≡ tower_words
tower-words = refl

tower-root : node_depth tower_words ≡ 0
unfolding node_depth depth shared
tower-root = refl

tower-first : groups 0 tower_words ≡ tower 98 1 200 ∷ ((99 ∷ []) ∷ []) ∷ []
unfolding groups glue
tower-first = refl

pub tower-sound : sound plain tower_names ≡ true
unfolding sound rising less shared
tower-sound = refl

pub path-reached : (ds : List ℕ) × Path (map (word plain) tower_names) ds × (length ds ≡ 201)
path-reached =
    let t = tower-path 98 1 199 (omega arith) in (
      0 ∷ t.0,
      subst (λ (ws : Words). Path ws (0 ∷ t.0)) (sym tower-words)
          (down {ws = tower_words} (sym tower-root) (omega arith) 0 (omega (arith, ap length tower-first))
          (subst (λ (gs : List Words). Path (get_or gs 0 []) t.0) (sym tower-first) t.1)),
      ap suc t.2,
    )
