-- The numbers of forks in an array, as three rows.
--     depths-length, firsts-length, reaches-length     each row has a number for each fork
--     depths-at, firsts-at, reaches-at                 the number at a place
--     depths-set, firsts-set, reaches-set              a fork that is replaced
--     depths-kept, firsts-kept                         .. by one with the same number
--     grown-child, grown-fork                          what `grow` gives, by the fork that it stores
--     rows-of                                          an array of 200 forks has three rows of 200 numbers
-- Assumes nothing.
use Rattle.std.proofs.Common.{◌≡◌, ◌∙◌, ℕ, ◌<◌, List, length, get_or}
use Rattle.std.proofs.Math.ListN.{length-map, set}
use Rattle.std.proofs.lemmas.List.{get_or-map, map-set}
use Rattle.std.proofs.Math.Seq.{map-set_same}
use Rattle.thin.specs.declared.Fork.{Fork}
use Rattle.words.specs.Words.{Bytes}
use Rattle.thin.specs.Frames.{GrowSays, Rows}
use Rattle.thin.specs.Forks.{depths_of, firsts_of, reaches_of}

pub depths-length : (rows : List Fork) → length (depths_of rows) ≡ length rows
unfolding depths_of
depths-length rows = length-map rows (λ (f : Fork). f.depth)

pub firsts-length : (rows : List Fork) → length (firsts_of rows) ≡ length rows
unfolding firsts_of
firsts-length rows = length-map rows (λ (f : Fork). f.first)

pub reaches-length : (rows : List Fork) → length (reaches_of rows) ≡ length rows
unfolding reaches_of
reaches-length rows = length-map rows (λ (f : Fork). f.reach)

module _ (rows : List Fork) (i : ℕ) (d : Fork) where
  pub depths-at : i < length rows → get_or (depths_of rows) i 0 ≡ (get_or rows i d).depth
  unfolding depths_of
  depths-at h = get_or-map (λ (f : Fork). f.depth) rows i d 0 h

  pub firsts-at : i < length rows → get_or (firsts_of rows) i 0 ≡ (get_or rows i d).first
  unfolding firsts_of
  firsts-at h = get_or-map (λ (f : Fork). f.first) rows i d 0 h

  pub reaches-at : i < length rows → get_or (reaches_of rows) i 0 ≡ (get_or rows i d).reach
  unfolding reaches_of
  reaches-at h = get_or-map (λ (f : Fork). f.reach) rows i d 0 h

module _ (rows : List Fork) (i : ℕ) (f : Fork) where
  pub depths-set : depths_of (set rows i f) ≡ set (depths_of rows) i f.depth
  unfolding depths_of
  depths-set = map-set (λ (x : Fork). x.depth) rows i f

  pub firsts-set : firsts_of (set rows i f) ≡ set (firsts_of rows) i f.first
  unfolding firsts_of
  firsts-set = map-set (λ (x : Fork). x.first) rows i f

  pub reaches-set : reaches_of (set rows i f) ≡ set (reaches_of rows) i f.reach
  unfolding reaches_of
  reaches-set = map-set (λ (x : Fork). x.reach) rows i f

module _ (rows : List Fork) (i : ℕ) (f d : Fork) where
  pub depths-kept : f.depth ≡ (get_or rows i d).depth → depths_of (set rows i f) ≡ depths_of rows
  unfolding depths_of
  depths-kept e = map-set_same (λ (x : Fork). x.depth) rows i f d e

  pub firsts-kept : f.first ≡ (get_or rows i d).first → firsts_of (set rows i f) ≡ firsts_of rows
  unfolding firsts_of
  firsts-kept e = map-set_same (λ (x : Fork). x.first) rows i f d e

pub rows-of : (rows : List Fork) → length rows ≡ 200 → Rows (depths_of rows) (firsts_of rows) (reaches_of rows)
rows-of rows e = record { depths = depths-length rows ∙ e; firsts = firsts-length rows ∙ e; reaches = reaches-length rows ∙ e }

-- one fork more has its child, or is open
module _ {b question : Bytes} {c t : ℕ} (rows : List Fork) (i : ℕ) (f d : Fork) where
  pub grown-child : f.depth ≡ (get_or rows i d).depth → f.first ≡ (get_or rows i d).first
      → GrowSays b question (depths_of rows) (firsts_of rows) (set (reaches_of rows) i f.reach) c t
      → GrowSays b question (depths_of (set rows i f)) (firsts_of (set rows i f)) (reaches_of (set rows i f)) c t
  grown-child e g s = rw (depths-kept rows i f d e, firsts-kept rows i f d g, reaches-set rows i f) s

pub grown-fork : {b question : Bytes} {c t : ℕ} (rows : List Fork) (i : ℕ) (f : Fork)
    → GrowSays b question (set (depths_of rows) i f.depth) (set (firsts_of rows) i f.first) (set (reaches_of rows) i f.reach) c t
    → GrowSays b question (depths_of (set rows i f)) (firsts_of (set rows i f)) (reaches_of (set rows i f)) c t
grown-fork rows i f s = rw (depths-set rows i f, firsts-set rows i f, reaches-set rows i f) s
