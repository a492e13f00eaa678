-- The ways through the row check, one law for each, over plain values.
--     Paces             so many strides from one offset to another
--     Rows              where the loops over a row have come to: the record at `child`, and the entry of its first name lo at a
--     WalkedForAny            beside it, the walk has come there
--     Pending           the invariant of both loops: the walk will have, once the record at hand tells the symbol of lo
--     Turn              the child at hand, of the names up to `next`, stands up to m, and c is where its last name's entry stands
--     RowGoesOn            behind it another record starts, and the entry of its first name stands at l
--     led-to, fork-like what a look at a record says, where it says yes
--     pending-.., rows-..     the ways
-- Assumes nothing.
use Prim.Native.Nat.{ℕ, zero, suc, pred, ◌+◌, ◌-◌, ◌*◌, ◌/◌, ◌%◌, ◌≤◌, ◌<◌, max}
use native.Mathlib.Nat.{lt_irrefl}
use native.Mathlib.Omega.{arith}
use mathlib.Core.Path.{◌≡◌, refl, sym, ap, ap₂, ◌∙◌, subst}
use mathlib.Core.Bool.{Bool, false, not, true}
use mathlib.Core.Logic.{◌⊎◌, inl, inr}
use lib.ListN.{length, get_or}
use Rattle.words.specs.Words.{Bytes, at}
use Rattle.words.specs.Rising.{Rises, nth, span}
use Rattle.words.proofs.Words.{apart, false≠true, less-parts, part_at, shared_at}
use Rattle.words.proofs.Rising.{nth-less, nth-positive}
use Rattle.format.specs.Kinds.{rule_in}
use Rattle.format.specs.Book.{names_of, told}
use Rattle.format.specs.Spans.{deep, words_in}
use Rattle.format.specs.Records.{longest}
use Rattle.format.specs.Widths.{widest}
use Rattle.format.proofs.Widths.{widest-none, widest-span}
use Rattle.streams.specs.Streams.{Here, Known, entry_end, length_at, offset_at, offset_from}
use Rattle.streams.proofs.Here.{here-fits, here-next, here-rises, here-symbol, name-short, words_count}
use Rattle.standing.specs.Maps.{Roomy, map_by, record_at}
use Rattle.standing.specs.Stands.{Child, GroupAt, NodeAt}
use Rattle.standing.proofs.Maps.{strides-left}
use Rattle.standing.proofs.Walk.{Expected, Walk, deep-short, group-end, node-head, walk-done, walk_more, walk-next, walk_start}
use Rattle.neighbours.specs.Neighbours.{MeetAsk, Meets, PartSays, shared_before}
use Rattle.neighbours.proofs.Meeting.{meet-level}
use Rattle.looks.specs.Looks.{ForkSays, LeafSays, LedSays, LedTo, MayBeFork}
use Rattle.inspect.specs.Check.{NodeAsk, NodeSays, NodeStands}
use Rattle.inspect.proofs.Nodes.{Asked, RowStands, leaf-not, leaf-stands, node_of, row_of, says-no, says-yes}

-- ---- ways over nodes

pub record Paces (stride from to : ℕ) : Type 0 where
  pub count : ℕ
  pub upto : to ≡ from + count * stride

-- what is left one node further on, and behind so many nodes
pace : {s from to : ℕ} → Paces s from to → from < to → Paces s (from + s) to
pace {s} {from} {to} p h = go p.count p.upto
  where
    go : (n : ℕ) → to ≡ from + n * s → Paces s (from + s) to
    go zero e = absurd (lt_irrefl from (omega arith))
    go (suc n) e = record { count = n; upto = omega arith }

paces : {s from to : ℕ} → 1 ≤ s → Paces s from to → (n : ℕ) → from + n * s ≤ to → Paces s (from + n * s) to
paces {s} {from} {to} one p n h = record { count = p.count - n; upto = omega (arith, p.upto, strides-left s one n p.count (omega (arith, p.upto))) }

-- ---- where the loops are

-- where the group of a node ends, whose first name is number lo
abbrev group_end : Bytes → ℕ → ℕ → ℕ → ℕ
group_end b step o lo = lo + (record_at step b o).names

pub record Rows (b : Bytes) (stride step o e lo₀ d a₀ child lo a g : ℕ) : Type 0 where
  pub asked : Asked b stride step o e lo₀ d a₀
  pub from : lo₀ ≤ lo
  pub some : lo < length (names_of b)
  pub here : Here b lo a
  pub low : get_or b a 0 ≤ d
  pub fits : entry_end b a ≤ length b
  pub wide : g ≡ widest (span (words_in b) lo₀ lo)
  pub room : child < e
  pub left : Paces stride child e
  pub ahead : RowStands b stride step o e lo₀ d → lo < group_end b step o lo₀

-- wherever the group ends
abbrev Walks : Bytes → ℕ → ℕ → ℕ → ℕ → ℕ → ℕ → ℕ → Type 0
Walks b stride step o lo₀ d child lo = (hi : ℕ) → suc lo₀ < hi → lo < hi → hi ≤ length (words_in b) → Walk (map_by stride step) b (words_in b) lo₀ hi d (o + stride) lo child

pub record WalkedForAny (b : Bytes) (stride step o e lo₀ d a₀ child lo a g : ℕ) : Type 0 where
  pub rows : Rows b stride step o e lo₀ d a₀ child lo a g
  pub walk : Walks b stride step o lo₀ d child lo

-- the name before lo and lo share just d symbols, but where lo is the row's first
abbrev Parted : Bytes → ℕ → ℕ → ℕ → Type 0
Parted b lo₀ d lo = lo₀ < lo → shared_before b lo ≡ d

-- before the record is looked at: they share d at least, and its symbol is not what the name before has there; so they part at d where it
-- is the symbol of lo, and where the row stands
pub record Pending (b : Bytes) (stride step o e lo₀ d a₀ child lo a g : ℕ) : Type 0 where
  pub rows : Rows b stride step o e lo₀ d a₀ child lo a g
  pub walk : Parted b lo₀ d lo → Walks b stride step o lo₀ d child lo
  pub shares : lo₀ < lo → d ≤ shared_before b lo
  pub other : lo₀ < lo → (record_at step b child).symbol ≡ at (nth (words_in b) (pred lo)) d → ⊥
  pub edge : RowStands b stride step o e lo₀ d → Parted b lo₀ d lo

-- s is the symbol that led to the child
pub record Turn (b : Bytes) (stride step o e lo₀ d a₀ child lo a g next m c s : ℕ) : Type 0 where
  pub walked : WalkedForAny b stride step o e lo₀ d a₀ child lo a g
  pub told : next ≡ lo + (record_at step b child).names
  pub some : lo < next
  pub upto : next ≤ length (names_of b)
  pub proper : next ≡ group_end b step o lo₀ → lo₀ < lo
  pub node : Child (map_by stride step) b (words_in b) d lo next child m
  pub here : Here b (pred next) c
  pub fits : entry_end b c ≤ length b
  pub left : Paces stride m e
  pub led : s ≡ (record_at step b child).symbol

pub record RowGoesOn (b : Bytes) (stride step o e lo₀ d a₀ child lo a g next m c s l : ℕ) : Type 0 where
  pub turn : Turn b stride step o e lo₀ d a₀ child lo a g next m c s
  pub room : m < e
  pub other : (record_at step b m).symbol ≡ s → ⊥
  pub here : Here b next l
  pub inside : next < length (names_of b)
  pub fits : entry_end b l ≤ length b

-- what a look at a record says, where it says yes
pub led-to : (b : Bytes) (step o i d a : ℕ) (v : Bool) → LedSays b step o i d a v → not v ≡ false → LedTo b step o i d a
led-to b step o i d a true k h = k
led-to b step o i d a false never h = absurd (false≠true (sym h))

pub fork-like : (b : Bytes) (stride step up o e d : ℕ) (v : Bool) → ForkSays b stride step up o e d v → not v ≡ false → MayBeFork b stride step up o e d
fork-like b stride step up o e d true k h = k
fork-like b stride step up o e d false never h = absurd (false≠true (sym h))

few : (b : Bytes) (i : ℕ) → i ≤ length (names_of b) → i ≤ length (words_in b)
few b i h = omega (arith, words_count (rule_in b) b)

two : {b : Bytes} {stride step o e lo d : ℕ} → RowStands b stride step o e lo d → suc lo < group_end b step o lo
two s = omega (arith, s.several)

inside : {b : Bytes} {stride step o e lo d : ℕ} → RowStands b stride step o e lo d → group_end b step o lo ≤ length (words_in b)
inside {b} {stride} {step} {o} {e} {lo} s = few b (group_end b step o lo) s.within

module _ {b : Bytes} {stride step o e lo₀ d a₀ : ℕ} where
  refused : Asked b stride step o e lo₀ d a₀ → (RowStands b stride step o e lo₀ d → ⊥) → NodeSays b stride step o e 0
  refused q n = says-no (λ s. n (row_of q s))

  -- ---- at the row's start

  starts : Asked b stride step o e lo₀ d a₀ → Walks b stride step o lo₀ d (o + stride) lo₀
  starts q h more some within = walk_start (map_by stride step) b (words_in b) q.ask.known.rises lo₀ h d (o + stride) more within

  pub rows_none : Asked b stride step o e lo₀ d a₀ → e ≤ o + stride → NodeSays b stride step o e 0
  rows_none q h = refused q (λ s.
      let k = walk-next (map_by stride step) b (words_in b) q.ask.known.rises lo₀ (group_end b step o lo₀) d (o + stride) (two s) (inside s) lo₀ (o + stride) (starts q (group_end b step o lo₀) (two s) (omega (arith, s.several)) (inside s)) e s.group in
      lt_irrefl e (omega (arith, k.past, q.ask.paced.some)))

  pub pending-start : Asked b stride step o e lo₀ d a₀ → o + stride < e → Pending b stride step o e lo₀ d a₀ (o + stride) lo₀ a₀ 0
  pending-start q h =
      let some : lo₀ < length (names_of b) = omega (arith, q.first, q.ask.some) in
      let here : Here b lo₀ a₀ = rw q.first q.ask.here in
      let own : Paces stride o e = record { count = (record_at step b o).nodes; upto = q.ask.ends } in
      record {
        rows = record {
          asked = q;
          from = omega arith;
          some = some;
          here = here;
          low = omega (arith, q.depth, q.ask.low);
          fits = here-fits (rule_in b) b lo₀ a₀ q.ask.known here some;
          wide = sym (widest-none (words_in b) lo₀);
          room = h;
          left = pace own (omega arith);
          ahead = λ s. omega (arith, s.several);
        };
        walk = λ p. starts q;
        shares = λ l. absurd (lt_irrefl lo₀ l);
        other = λ l. absurd (lt_irrefl lo₀ l);
        edge = λ s l. absurd (lt_irrefl lo₀ l);
      }

  -- ---- up to the child

  module _ {child lo a g : ℕ} where
    expects : WalkedForAny b stride step o e lo₀ d a₀ child lo a g → RowStands b stride step o e lo₀ d → Expected (map_by stride step) b (words_in b) lo₀ (group_end b step o lo₀) d lo child e
    expects w s =
        walk-next (map_by stride step) b (words_in b) w.rows.asked.ask.known.rises lo₀ (group_end b step o lo₀) d (o + stride) (two s) (inside s) lo child (w.walk (group_end b step o lo₀) (two s) (w.rows.ahead s) (inside s)) e s.group

    pub rows-room : Rows b stride step o e lo₀ d a₀ child lo a g → Roomy step b child
    rows-room r = r.asked.ask.room child r.room

    -- there is room for a record at every offset below the end, so the end lies within the bytes
    pub rows_upto : Rows b stride step o e lo₀ d a₀ child lo a g → e ≤ length b
    rows_upto r = omega (arith, r.room, r.asked.ask.room (pred e) (omega (arith, r.room)))

    module _ (p : Pending b stride step o e lo₀ d a₀ child lo a g) where
      pub pending-other : (v : Bool) → LedSays b step child lo d a v → not v ≡ true → NodeSays b stride step o e 0
      pending-other true k h = absurd (false≠true h)
      pending-other false never h = refused p.rows.asked (λ s.
          let k = expects (record { rows = p.rows; walk = p.walk (p.edge s) }) s in
          never (k.symbol ∙ sym (here-symbol (rule_in b) b lo a p.rows.asked.ask.known p.rows.here p.rows.some d _ p.rows.low refl), k.first))

      -- the symbol of lo led to the record
      pub pending-led : LedTo b step child lo d a → WalkedForAny b stride step o e lo₀ d a₀ child lo a g
      pending-led led = record {
        rows = p.rows;
        walk = p.walk (λ l.
            part_at (nth (words_in b) (pred lo)) (nth (words_in b) lo) d (p.shares l)
            (λ q. p.other l (here-symbol (rule_in b) b lo a p.rows.asked.ask.known p.rows.here p.rows.some d _ p.rows.low led.0 ∙ sym q)));
      }

    module _ (w : WalkedForAny b stride step o e lo₀ d a₀ child lo a g) (led : LedTo b step child lo d a) where
      known : Known (rule_in b) b
      known = w.rows.asked.ask.known

      led-is : (record_at step b child).symbol ≡ at (nth (words_in b) lo) d
      led-is = here-symbol (rule_in b) b lo a known w.rows.here w.rows.some d _ w.rows.low led.0

      -- x is the number of names that the record tells
      module _ (x : ℕ) (xe : x ≡ (record_at step b child).names) where
        -- ---- one name

        module _ (one : x ≡ 1) where
          pub rows-no-leaf : (v : Bool) → LeafSays b step child (length_at b a) v → not v ≡ true → NodeSays b stride step o e 0
          rows-no-leaf true k h = absurd (false≠true h)
          rows-no-leaf false never h = refused w.rows.asked (λ s.
              let k = expects w s in
              let z : lo + (record_at step b child).names ≡ lo + 1 = omega arith in
              leaf-not b stride step lo (at (nth (words_in b) lo) d) child a known w.rows.here w.rows.some never (child + (record_at step b child).nodes * stride)
              (subst (λ (i : ℕ). NodeAt (map_by stride step) b (words_in b) lo i (at (nth (words_in b) lo) d) child (child + (record_at step b child).nodes * stride)) z k.node))

          pub rows-leaf : (v : Bool) → LeafSays b step child (length_at b a) v → not v ≡ false → (s : ℕ) → s ≡ (record_at step b child).symbol
              → Turn b stride step o e lo₀ d a₀ child lo a g (lo + 1) (child + stride) a s
          rows-leaf false never h s se = absurd (false≠true (sym h))
          rows-leaf true sure h s se =
              let last : lo ≡ pred (lo + 1) = omega arith in
              record {
                walked = w;
                told = omega arith;
                some = omega arith;
                upto = omega (arith, w.rows.some);
                proper = λ q. alone (record_at step b o).names w.rows.asked.ask.several q;
                node = record {
                  some = omega arith;
                  node = leaf-stands b stride step lo (at (nth (words_in b) lo) d) child a known w.rows.here w.rows.some (rows-room w.rows) led-is led.1 (omega arith) sure;
                  below = λ q. absurd (lt_irrefl lo (omega arith));
                };
                here = subst (λ (i : ℕ). Here b i a) last w.rows.here;
                fits = w.rows.fits;
                left = pace w.rows.left w.rows.room;
                led = se;
              }
            where
              -- one name is not the whole group, which has not one
              alone : (n : ℕ) → (n ≡ 1 → ⊥) → lo + 1 ≡ lo₀ + n → lo₀ < lo
              alone n more q = omega (arith, w.rows.from)

        -- ---- several names

        module _ (more : x ≡ 1 → ⊥) where
          -- several words share less than any name can have
          shallow : Expected (map_by stride step) b (words_in b) lo₀ (group_end b step o lo₀) d lo child e → RowStands b stride step o e lo₀ d → 1 < (record_at step b child).names → (record_at step b child).depth < longest
          shallow k s many =
              let names : ℕ = (record_at step b child).names in
              let end : lo + names ≤ length (words_in b) = omega (arith, inside s, k.upto, w.rows.ahead s) in
              let hd = node-head (map_by stride step) b (words_in b) known.rises _ lo (lo + names) child (child + (record_at step b child).nodes * stride) (omega (arith, k.some)) end k.node in
              let short : length (nth (words_in b) (pred (lo + names))) ≤ longest = name-short (rule_in b) b (pred (lo + names)) known (omega (arith, end, words_count (rule_in b) b)) in
              omega (arith, hd.depth (omega arith), deep-short (words_in b) known.rises lo (lo + names) longest (omega arith) end short)

          many : Expected (map_by stride step) b (words_in b) lo₀ (group_end b step o lo₀) d lo child e → 1 < (record_at step b child).names
          many k = omega (arith, k.some)

          pub rows-no-fork : (v : Bool) → ForkSays b stride step o child e d v → not v ≡ true → NodeSays b stride step o e 0
          rows-no-fork true k h = absurd (false≠true h)
          rows-no-fork false never h = refused w.rows.asked (λ s.
              let k = expects w s in
              never (record { proper = omega (arith, k.proper); below = k.below (many k); shallow = shallow k s (many k); ends = k.ends }))

          module _ (f : MayBeFork b stride step o child e d) where
            -- y is the number of nodes that the record tells
            module _ (y : ℕ) (ye : y ≡ (record_at step b child).nodes) where
              extent : child + y * stride ≡ child + (record_at step b child).nodes * stride
              extent = ap (λ (i : ℕ). child + i * stride) ye

              pub rows-ends : child + y * stride ≤ e
              rows-ends = omega (arith, extent, f.ends)

              pub rows-asks : NodeAsk b stride step child (child + y * stride) a
              rows-asks = record {
                known = known;
                blocks = w.rows.asked.ask.blocks;
                ended = w.rows.asked.ask.ended;
                long = w.rows.asked.ask.long;
                paced = w.rows.asked.ask.paced;
                room = λ i h. w.rows.asked.ask.room i (omega (arith, rows-ends));
                own = rows-room w.rows;
                ends = extent;
                several = λ q. more (xe ∙ q);
                some = omega (arith, led.1, w.rows.some);
                here = subst (λ (i : ℕ). Here b i a) (sym led.1) w.rows.here;
                low = omega (arith, w.rows.low, f.below);
              }

              -- found is what the check of the node gave
              module _ (found : ℕ) (says : NodeSays b stride step child (child + y * stride) found) where
                pub rows-node : found ≡ 0 → NodeSays b stride step o e 0
                rows-node z = refused w.rows.asked (λ s.
                    let k = expects w s in
                    says.no_way z (record {
                      several = many k;
                      within = omega (arith, led.1, k.upto, w.rows.ahead s, s.within);
                      node = rw (led.1, k.symbol, extent) k.node;
                    }))

                module _ (yes_way : found ≡ 0 → ⊥) where
                  own : found / 65536 ≡ child
                  own = says.own yes_way

                  pub rows-own : Roomy step b (found / 65536)
                  rows-own = subst (Roomy step b) (sym own) (rows-room w.rows)

                  -- the child's record, read again
                  module _ (z : ℕ) (ze : z ≡ (record_at step b (found / 65536)).nodes) where
                    again : found / 65536 + z * stride ≡ child + y * stride
                    again =
                        let z-is : z ≡ y = ze ∙ ap (λ (i : ℕ). (record_at step b i).nodes) own ∙ sym ye in
                        omega (arith, own, ap (λ (i : ℕ). i * stride) z-is)

                    pub rows-again : found / 65536 + z * stride ≤ e
                    rows-again = omega (arith, again, rows-ends)

                    pub rows-fork : (i n s : ℕ) → i ≡ (record_at step b (found / 65536)).first → n ≡ (record_at step b (found / 65536)).names → s ≡ (record_at step b (found / 65536)).symbol
                        → Turn b stride step o e lo₀ d a₀ child lo a g (i + n) (found / 65536 + z * stride) (found % 65536) s
                    rows-fork i n s ie ne se = rw (ends, again) (record {
                      walked = w;
                      told = refl;
                      some = omega (arith, stands.several);
                      upto = omega (arith, led.1, stands.within);
                      proper = λ q. omega (arith, f.proper);
                      node = record {
                        some = omega (arith, stands.several);
                        node = subst (λ (t : ℕ). NodeAt (map_by stride step) b (words_in b) lo (lo + (record_at step b child).names) t child (child + y * stride)) led-is node;
                        below = λ q. omega (arith, depth_is, f.below);
                      };
                      here = last;
                      fits = here-fits (rule_in b) b (pred (lo + (record_at step b child).names)) (found % 65536) known last (omega (arith, led.1, stands.several, stands.within));
                      left = paces w.rows.asked.ask.paced.some w.rows.left y rows-ends;
                      led = se ∙ ap (λ (j : ℕ). (record_at step b j).symbol) own;
                    })
                      where
                        stands : NodeStands b stride step child (child + y * stride)
                        stands = says.it-does yes_way

                        ends : i + n ≡ lo + (record_at step b child).names
                        ends = omega (arith, led.1, ie ∙ ap (λ (j : ℕ). (record_at step b j).first) own, ne ∙ ap (λ (j : ℕ). (record_at step b j).names) own)

                        node : NodeAt (map_by stride step) b (words_in b) lo (lo + (record_at step b child).names) (record_at step b child).symbol child (child + y * stride)
                        node = subst (λ (j : ℕ). NodeAt (map_by stride step) b (words_in b) j (j + (record_at step b child).names) (record_at step b child).symbol child (child + y * stride)) led.1 stands.node

                        depth_is : (record_at step b child).depth ≡ deep (words_in b) lo (lo + (record_at step b child).names)
                        depth_is =
                            (node-head (map_by stride step) b (words_in b) known.rises (record_at step b child).symbol lo (lo + (record_at step b child).names) child (child + y * stride) (omega (arith, stands.several))
                            (few b (lo + (record_at step b child).names) (omega (arith, led.1, stands.within))) node).depth (omega (arith, stands.several))

                        last : Here b (pred (lo + (record_at step b child).names)) (found % 65536)
                        last = subst (λ (j : ℕ). Here b (pred (j + (record_at step b child).names)) (found % 65536)) led.1 (says.last yes_way)

    -- ---- and behind it

    module _ {next m c s : ℕ} where
      module _ (t : Turn b stride step o e lo₀ d a₀ child lo a g next m c s) where
        rises : Rises (words_in b)
        rises = t.walked.rows.asked.ask.known.rises

        within : next ≤ length (words_in b)
        within = few b next t.upto

        -- the child's names are the last ones of a group: its row stands up to m
        stood : lo₀ < lo → GroupAt (map_by stride step) b (words_in b) lo₀ next d (o + stride) m
        stood l =
            let more : suc lo₀ < next = omega (arith, t.some) in
            walk-done (map_by stride step) b (words_in b) rises lo₀ next d (o + stride) more within lo child (t.walked.walk next more t.some within) m t.node (omega (arith, t.some))

        -- the child's names share more than d symbols, or there is one
        last-led : (record_at step b child).symbol ≡ at (nth (words_in b) (pred next)) d
        unfolding deep
        last-led = (node-head (map_by stride step) b (words_in b) rises _ lo next child m t.some within t.node.node).symbol ∙ go (apart (suc lo) next)
          where
            go : (suc lo < next) ⊎ (next ≤ suc lo) → at (nth (words_in b) lo) d ≡ at (nth (words_in b) (pred next)) d
            go (inl l) = shared_at (nth (words_in b) lo) (nth (words_in b) (pred next)) d (t.node.below l)
            go (inr l) = let z : lo ≡ pred next = omega (arith, t.some) in ap (λ (j : ℕ). at (nth (words_in b) j) d) z

        wider : (v y : ℕ) → v ≡ (record_at step b child).width → y ≡ max g v → y ≡ widest (span (words_in b) lo₀ next)
        wider v y ve ye =
            omega (
              arith,
              t.walked.rows.wide,
              (node-head (map_by stride step) b (words_in b) rises _ lo next child m t.some within t.node.node).width,
              widest-span (words_in b) lo₀ lo next t.walked.rows.from (omega (arith, t.some)) within,
            )

        -- ---- where the row stands

        module _ (k : RowStands b stride step o e lo₀ d) where
          most : next ≤ group_end b step o lo₀
          most = omega (arith, t.told, (expects t.walked k).upto, t.walked.rows.ahead k)

          -- the child's last name and the next share just d
          edge : next < group_end b step o lo₀ → shared_before b next ≡ d
          edge h = subst (λ (i : ℕ). shared_before b i ≡ d) (sym t.told) ((expects t.walked k).edge (omega (arith, t.told)))

          follows : next < group_end b step o lo₀ → Expected (map_by stride step) b (words_in b) lo₀ (group_end b step o lo₀) d next m e
          follows h =
              let here : Walk (map_by stride step) b (words_in b) lo₀ (group_end b step o lo₀) d (o + stride) lo child = t.walked.walk (group_end b step o lo₀) (two k) (t.walked.rows.ahead k) (inside k) in
              walk-next (map_by stride step) b (words_in b) rises lo₀ (group_end b step o lo₀) d (o + stride) (two k) (inside k) next m
              (walk_more (map_by stride step) b (words_in b) rises lo₀ (group_end b step o lo₀) d (o + stride) (two k) (inside k) lo child here next m t.node h (edge h)) e k.group

          -- and has not ended, names are left
          short : m < e → next < group_end b step o lo₀
          short h = go (apart next (group_end b step o lo₀))
            where
              go : (next < group_end b step o lo₀) ⊎ (group_end b step o lo₀ ≤ next) → next < group_end b step o lo₀
              go (inl l) = l
              go (inr l) =
                  let z : next ≡ group_end b step o lo₀ = omega (arith, most) in
                  let done : GroupAt (map_by stride step) b (words_in b) lo₀ (group_end b step o lo₀) d (o + stride) m = subst (λ (i : ℕ). GroupAt (map_by stride step) b (words_in b) lo₀ i d (o + stride) m) z (stood (t.proper z)) in
                  absurd (lt_irrefl m (omega (arith, group-end (map_by stride step) b (words_in b) lo₀ (group_end b step o lo₀) d (o + stride) m e done k.group)))

          -- and has ended, none are
          whole : e ≤ m → next ≡ group_end b step o lo₀
          whole h = go (apart next (group_end b step o lo₀))
            where
              go : (next < group_end b step o lo₀) ⊎ (group_end b step o lo₀ ≤ next) → next ≡ group_end b step o lo₀
              go (inl l) = absurd (lt_irrefl e (omega (arith, (follows l).past, t.walked.rows.asked.ask.paced.some)))
              go (inr l) = omega (arith, most)

        -- ---- the row has ended; i and n are what the node's record tells of its names

        module _ (h : e ≤ m) (i n : ℕ) (ie : i ≡ (record_at step b o).first) (ne : n ≡ (record_at step b o).names) where
          sum : i + n ≡ group_end b step o lo₀
          sum = omega (arith, t.walked.rows.asked.first)

          pub rows-unused : (next ≡ i + n → ⊥) → NodeSays b stride step o e 0
          rows-unused q = refused t.walked.rows.asked (λ k. q (whole k h ∙ sym sum))

          -- v is the width that the child's record tells, y the greatest so far with it, z the width that the node's record tells
          module _ (v y z : ℕ) (ve : v ≡ (record_at step b child).width) (ye : y ≡ max g v) (ze : z ≡ (record_at step b o).width) where
            greatest : next ≡ group_end b step o lo₀ → y ≡ widest (span (words_in b) lo₀ (group_end b step o lo₀))
            greatest used = wider v y ve ye ∙ ap (λ (j : ℕ). widest (span (words_in b) lo₀ j)) used

            pub rows-narrow : (y ≡ z → ⊥) → NodeSays b stride step o e 0
            rows-narrow q = refused t.walked.rows.asked (λ k. q (greatest (whole k h) ∙ sym k.wide ∙ sym ze))

            -- the last one of several names stands behind the first entry
            pub rows-done : next ≡ i + n → y ≡ z → NodeSays b stride step o e (c + 65536 * o)
            unfolding offset_from
            rows-done all q =
                let used : next ≡ group_end b step o lo₀ = all ∙ sum in
                let l : lo₀ < lo = t.proper used in
                let end : m ≡ e = omega (arith, t.left.upto) in
                let last : Here b (pred ((record_at step b o).first + (record_at step b o).names)) c = subst (λ (j : ℕ). Here b (pred j) c) (all ∙ ap₂ ◌+◌ ie ne) t.here in
                says-yes (node_of t.walked.rows.asked (record {
                  several = omega (arith, t.some);
                  within = omega (arith, t.upto);
                  group = subst (GroupAt (map_by stride step) b (words_in b) lo₀ (group_end b step o lo₀) d (o + stride)) end
                      (subst (λ (j : ℕ). GroupAt (map_by stride step) b (words_in b) lo₀ j d (o + stride) m) used (stood l));
                  wide = sym ze ∙ sym q ∙ greatest used;
                })) last
                (omega (arith, here-rises b 0 (pred next) (omega (arith, t.some)), t.here))
                (omega (arith, t.fits, t.walked.rows.asked.ask.known.short))

        -- ---- the row goes on; x is the symbol of the next record

        module _ (h : m < e) where
          pub rows_next : Roomy step b m
          rows_next = t.walked.rows.asked.ask.room m h

          module _ (x : ℕ) (xe : x ≡ (record_at step b m).symbol) where
            -- where the row stands they differ
            pub rows_same : x ≡ s → NodeSays b stride step o e 0
            rows_same q = refused t.walked.rows.asked (λ k.
                let l : next < group_end b step o lo₀ = short k h in
                let same : at (nth (words_in b) next) d ≡ at (nth (words_in b) (pred next)) d = sym (follows k l).symbol ∙ sym xe ∙ q ∙ t.led ∙ last-led in
                less-parts (nth (words_in b) (pred next)) (nth (words_in b) next) (nth-positive (words_in b) (pred next) rises) (nth-positive (words_in b) next rises)
                (nth-less (words_in b) (pred next) next rises (omega (arith, t.some)) (omega (arith, inside k)))
                (subst (λ (j : ℕ). at (nth (words_in b) next) j ≡ at (nth (words_in b) (pred next)) j) (sym (edge k l)) same))

            -- l is where the entry after the last name's stands, u where the entries end
            module _ (other : x ≡ s → ⊥) (l u : ℕ) (le : l ≡ entry_end b c) (ue : u ≡ told b 2) where
              moved : Here b next l
              moved = let back : suc (pred next) ≡ next = omega (arith, t.some) in subst (λ (j : ℕ). Here b j l) back (le ∙ here-next b (pred next) c t.here)

              pub rows-ended : u ≤ l → NodeSays b stride step o e 0
              rows-ended q = refused t.walked.rows.asked (λ k.
                  lt_irrefl l (omega (arith, t.walked.rows.asked.ask.ended, moved, here-rises b next (length (names_of b)) (omega (arith, short k h, k.within)))))

              pub rows-onward : l < u → RowGoesOn b stride step o e lo₀ d a₀ child lo a g next m c s l
              rows-onward q =
                  let in-names : next < length (names_of b) = among (apart next (length (names_of b))) in
                  record {
                    turn = t;
                    room = h;
                    other = λ z. other (xe ∙ z);
                    here = moved;
                    inside = in-names;
                    fits = here-fits (rule_in b) b next l t.walked.rows.asked.ask.known moved in-names;
                  }
                where
                  -- the entries end where there is no name left
                  among : (next < length (names_of b)) ⊎ (length (names_of b) ≤ next) → next < length (names_of b)
                  among (inl p) = p
                  among (inr p) =
                      let z : next ≡ length (names_of b) = omega (arith, t.upto) in
                      absurd (lt_irrefl l (omega (arith, t.walked.rows.asked.ask.ended, moved ∙ ap (offset_at b) z)))

      module _ {l : ℕ} (w : RowGoesOn b stride step o e lo₀ d a₀ child lo a g next m c s l) where
        pub rows-meets : MeetAsk b c l next
        rows-meets = record {
          known = w.turn.walked.rows.asked.ask.known;
          long = w.turn.walked.rows.asked.ask.long;
          blocks = w.turn.walked.rows.asked.ask.blocks;
          some = omega (arith, w.turn.some);
          within = w.inside;
          before = w.turn.here;
          here = w.here;
        }

        -- v is the width that the child's record tells, y the greatest so far with it
        module _ (v y : ℕ) (ve : v ≡ (record_at step b child).width) (ye : y ≡ max g v) where
          go_on : Meets b l next d → Pending b stride step o e lo₀ d a₀ m next l y
          go_on k = record {
            rows = record {
              asked = w.turn.walked.rows.asked;
              from = omega (arith, w.turn.walked.rows.from, w.turn.some);
              some = w.inside;
              here = w.here;
              low = k.low;
              fits = w.fits;
              wide = wider w.turn v y ve ye;
              room = w.room;
              left = w.turn.left;
              ahead = λ s. short w.turn s w.room;
            };
            walk = λ p h more some within.
                walk_more (map_by stride step) b (words_in b) w.turn.walked.rows.asked.ask.known.rises lo₀ h d (o + stride) more within lo child (w.turn.walked.walk h more (omega (arith, w.turn.some)) within) next m w.turn.node some
                (p (omega (arith, w.turn.walked.rows.from, w.turn.some)));
            shares = λ p. k.shares;
            other = λ p z. w.other (z ∙ sym (last-led w.turn) ∙ sym w.turn.led);
            edge = λ s p. edge w.turn s (short w.turn s w.room);
          }

          -- x is the entry's count
          pub rows-level : (x : ℕ) → x ≡ get_or b l 0 → x ≡ d → Pending b stride step o e lo₀ d a₀ m next l y
          rows-level x xe q = go_on (meet-level b c l next rows-meets x xe d q)

          -- or x is what was found where it is not d
          pub rows-parts : (x : ℕ) → PartSays b l next d x → (x ≡ 0 → ⊥) → Pending b stride step o e lo₀ d a₀ m next x y
          rows-parts x says q = let k = says.it-does q in subst (λ (j : ℕ). Pending b stride step o e lo₀ d a₀ m next j y) (sym k.0) (go_on k.1)

        pub rows-parted : (x : ℕ) → PartSays b l next d x → x ≡ 0 → NodeSays b stride step o e 0
        rows-parted x says z = refused w.turn.walked.rows.asked (λ k. says.no_way z (edge w.turn k (short w.turn k w.room)))
