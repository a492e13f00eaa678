-- Document 02, CR 9: a route, up to 120 positions, as a row of clips.
--     most_stops, first_bad     the positions of the longest route; the index of the first position that no name has
--     Routed, route_of   an answer, and the lent room afterwards; the call: 2, 16, 12, 3 with that index, 4; refused, nothing is written
-- The laws are in proofs/Routes.antt. Assumes nothing: these are definitions.
use Rattle.std.specs.Prelude.{ℕ, suc, ◌*◌, List, [], ◌∷◌, map, leb, ltb, eqb, length, get_or}
use Rattle.words.specs.Words.{Bytes, pick}
use Rattle.format.specs.Outcomes.{Answer, given, numbered, over, refused}
use Rattle.answers.specs.Announcing.{Clips, refusal}
use Rattle.answers.specs.Calls.{check}

abbrev pub most_stops : ℕ
most_stops = 120

-- of n names; as many as there are positions where no position is bad
unfoldable pub first_bad : ℕ → List ℕ → ℕ
first_bad n [] = 0
first_bad n (p ∷ ps) = let more = suc (first_bad n ps) in pick (ltb p n) more 0

pub record Routed : Type 0 where
  pub answer : Answer
  pub room : Clips

-- a table's clips at some positions
abbrev pub clips_at : Clips → List ℕ → Clips
clips_at clips positions = map (λ i. get_or clips i 0) positions

unfoldable pub route_of : Bytes → Clips → List ℕ → Clips → Routed
route_of s clips positions room =
    let size = length positions in
    let bad = first_bad (check s).first positions in
    let refuse : Answer → Routed = λ a. record { answer = a; room = room } in
    pick (eqb (refusal s clips) 0)
    (pick (leb size most_stops)
    (pick (eqb bad size)
    (pick (leb size (length room)) (record { answer = given (2 * size) 0; room = over (clips_at clips positions) room }) (refuse (refused 4)))
    (refuse (numbered 3 bad)))
    (refuse (refused 12)))
    (refuse (refused (refusal s clips)))
