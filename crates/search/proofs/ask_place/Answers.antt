-- How many names are less is what `seat` gives. What the table answers is answered of the book that it was made of.
use Prim.Native.Nat.{ℕ}
use mathlib.Core.Path.{ap}
use Rattle.spots.proofs.Spots.{spot-at}
use Rattle.search.proofs.Seats.{told-askable}
use Rattle.search.proofs.ask_place.Goals as goal

pub seat-before-requires : goal.seat-before-requires
seat-before-requires c = spot-at (told-askable c.table_of-table.ensures.book_same c.table_of-table.ensures.map_told c.requires) c.locate-spot.ensures.spot_says

pub returns : goal.returns
returns c =
    let own = c.table_of-table.ensures.book_same in
    rw c.of.ensures (record {
      result_value = ap (λ (n : ℕ). (n, 0)) (rw own at c.seat-before.ensures);
      looked = rw own at c.locate-spot.ensures.looked;
    })
