-- Document 02, CR 8, 'How far it looked': where a search ends, with the nodes that it has visited going down. The search itself is document
-- 01's, in Questions.
--     Stop              a position, and how many nodes were visited
--     stop_at, visited   at a position, above every node; the same with one node more
-- Assumes nothing: these are definitions.
use Rattle.std.specs.Prelude.{ℕ, suc}

pub record Stop : Type 0 where
  pub position : ℕ
  pub visits : ℕ

abbrev pub stop_at : ℕ → Stop
stop_at i = record { position = i; visits = 0 }

abbrev pub visited : Stop → Stop
visited t = record { position = t.position; visits = suc t.visits }
