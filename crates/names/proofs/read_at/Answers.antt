-- What the search leaves of `names::read_at`: `found` tells where the block of a position starts.
-- Assumes nothing.
use mathlib.Core.Path.{refl}
use native.Mathlib.Omega.{arith}
use Rattle.names.proofs.Rebuilding.{found, found-asks, found-entries, found_name}
use Rattle.names.proofs.read_at.Goals as goal

pub overflow_mul-block : goal.overflow_mul-block
overflow_mul-block c = omega (arith, found c.requires c.block_of-block.ensures refl)

pub overflow_add-table : goal.overflow_add-table
overflow_add-table c = omega (arith, found c.requires c.block_of-block.ensures refl)

pub number_at-start-requires : goal.number_at-start-requires
number_at-start-requires c = omega (arith, found c.requires c.block_of-block.ensures refl)

pub name_of-requires : goal.name_of-requires
name_of-requires c = found-asks (found c.requires c.block_of-block.ensures c.rest_of.ensures) c.number_at-start.ensures.0

pub returns-clause-named : goal.returns-clause-named
returns-clause-named c =
    found_name (found c.requires c.block_of-block.ensures c.rest_of.ensures) c.number_at-start.ensures.0 _ c.name_of.ensures.name_is

pub returns-clause-read_value : goal.returns-clause-read_value
returns-clause-read_value c = found-entries c.requires c.rest_of.ensures _ c.name_of.ensures.read_value
