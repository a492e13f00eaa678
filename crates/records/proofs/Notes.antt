-- Laws of the three rows of numbers that are noted.
--     lens-length, counts-length, shares-length     each has a number for each note
--     lens-at, counts-at, shares-at                 the number at a place
--     lens-set, counts-set, shares-set              a note that is replaced
-- Assumes nothing.
use Rattle.std.proofs.Common.{◌≡◌, ℕ, ◌<◌, List, length, get_or}
use Rattle.std.proofs.Math.ListN.{length-map, set}
use Rattle.std.proofs.lemmas.List.{get_or-map, map-set}
use Rattle.records.specs.declared.Note.{Note}
use Rattle.records.specs.Notes.{lens_of, counts_of, shares_of}

pub lens-length : (rows : List Note) → length (lens_of rows) ≡ length rows
unfolding lens_of
lens-length rows = length-map rows (λ (r : Note). r.len)

pub counts-length : (rows : List Note) → length (counts_of rows) ≡ length rows
unfolding counts_of
counts-length rows = length-map rows (λ (r : Note). r.count)

pub shares-length : (rows : List Note) → length (shares_of rows) ≡ length rows
unfolding shares_of
shares-length rows = length-map rows (λ (r : Note). r.share)

module _ (rows : List Note) (i : ℕ) (d : Note) where
  pub lens-at : i < length rows → get_or (lens_of rows) i 0 ≡ (get_or rows i d).len
  unfolding lens_of
  lens-at h = get_or-map (λ (r : Note). r.len) rows i d 0 h

  pub counts-at : i < length rows → get_or (counts_of rows) i 0 ≡ (get_or rows i d).count
  unfolding counts_of
  counts-at h = get_or-map (λ (r : Note). r.count) rows i d 0 h

  pub shares-at : i < length rows → get_or (shares_of rows) i 0 ≡ (get_or rows i d).share
  unfolding shares_of
  shares-at h = get_or-map (λ (r : Note). r.share) rows i d 0 h

module _ (rows : List Note) (i : ℕ) (r : Note) where
  pub lens-set : lens_of (set rows i r) ≡ set (lens_of rows) i r.len
  unfolding lens_of
  lens-set = map-set (λ (x : Note). x.len) rows i r

  pub counts-set : counts_of (set rows i r) ≡ set (counts_of rows) i r.count
  unfolding counts_of
  counts-set = map-set (λ (x : Note). x.count) rows i r

  pub shares-set : shares_of (set rows i r) ≡ set (shares_of rows) i r.share
  unfolding shares_of
  shares-set = map-set (λ (x : Note). x.share) rows i r
