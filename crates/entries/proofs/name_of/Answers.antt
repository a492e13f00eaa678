-- What the search leaves of `entries::name_of`.
-- Assumes nothing.
use Prim.Native.Nat.{ℕ}
use native.Mathlib.Omega.{arith}
use lib.ListN.{length, length-take, take}
use Rattle.words.specs.Words.{Bytes}
use Rattle.streams.specs.Streams.{EntryAt}
use Rattle.entries.proofs.Reading.{reached-done, reached-entry, reached-more}
use Rattle.entries.proofs.name_of.Goals as goal

-- the bytes of a name are as many as it tells
told : {b : Bytes} {o : ℕ} (len : ℕ) (xs : Bytes) → EntryAt b o (length (take len xs)) → EntryAt b o len
told len xs k = record { fits = k.fits; shares = omega (arith, k.shares, length-take len xs); short = k.short }

pub read_on-cur-requires : goal.read_on-cur-requires
read_on-cur-requires c =
    (told _ _ (reached-entry c.loop.invariant.0), omega (arith, c.loop.invariant.1, c.loop.invariant.0.upto, c.requires.few))

pub loop-preserved : goal.loop-preserved
loop-preserved c = (
  reached-more c.loop.invariant.0 c.loop-test.true c.read_on-cur.result.at _ c.read_on-cur.ensures.next_is,
  omega (arith, c.read_on-cur.ensures.counted, c.loop.invariant.1),
)

pub read_on-requires : goal.read_on-requires
read_on-requires c =
    (told _ _ (reached-entry c.loop.invariant.0), omega (arith, c.loop.invariant.1, c.loop.invariant.0.upto, c.requires.few))

pub returns-clause-name_is : goal.returns-clause-name_is
returns-clause-name_is c = reached-done c.loop.invariant.0 (omega (arith, c.loop.auto.counter-end)) c.read_on.result.at _ c.read_on.ensures.next_is
