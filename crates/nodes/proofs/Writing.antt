-- Laws of the writer of the node table.
--     back_full, back_more          a record in front of those at the end of a room
--     symbol-root, symbol-under, symbol-shifted     the symbol that leads to a node, by a piece of a name
--     leaf-put                      the leaf of a name
--     node-some .. node-put         the node of the top frame
--     onward-start, onward-more; passing-on, passing-deeper, passing-done     frame after frame
--     noted-room, noted_size        what is noted of each name
--     rowing_start .. rowing-all    the walk over all names
-- Assumes nothing.
use Prim.Native.Nat.{ℕ, zero, suc, ◌+◌, ◌-◌, ◌*◌, ◌≤◌, ◌<◌, max, zero-le, pred}
use native.Mathlib.Nat.{lt_irrefl, not-suc-le-zero}
use native.Mathlib.Numerals.{add-one}
use native.Mathlib.Omega.{arith}
use mathlib.Core.Path.{◌≡◌, refl, sym, ap, ap₂, ◌∙◌, subst}
use mathlib.Core.List.{List, [], ◌∷◌, ◌++◌}
use lib.ListN.{length, get_or, take, drop, length-append, length-drop, length-map, replicate}
use lib.Seq.{drop_at, drop-drop, length-take-le, get_or-drop, drop-length}
use Rattle.words.specs.Words.{Bytes, Rule, Words, at, shared, word}
use Rattle.words.specs.Rising.{nth}
use Rattle.words.proofs.Rising.{nth-less, span-all}
use Rattle.words.proofs.Words.{at-past, less-short}
use Rattle.format.specs.Book.{numbers}
use Rattle.format.specs.Spans.{node_part}
use Rattle.format.specs.Nodes.{Node, leaf, table, node_size, all_fields, fields}
use Rattle.format.proofs.Groups.{table_empty}
use Rattle.format.proofs.Numbers.{numbers-append, numbers-length}
use Rattle.format.proofs.Widths.{widest-low}
use Rattle.records.specs.Lists.{Ready, names, start_of, words}
use Rattle.records.specs.declared.Note.{Note}
use Rattle.records.specs.Notes.{lens_of}
use Rattle.records.proofs.Notes.{lens-at, lens-length}
use Rattle.records.proofs.Starts.{ready-rises, ready-size, ready-word, start-all, start_fits, start-name, start-next, words-length}
use Rattle.frames.specs.declared.Frame.{Frame}
use Rattle.frames.specs.declared.LeftOpen.{LeftOpen}
use Rattle.frames.specs.Frames.{FramesStand, PushAsk, RaiseAsk, depth_in, end_in, frame_count, mark_in, no_frame, raised, width_in, with_frame}
use Rattle.frames.proofs.Frames.{framed-raised, framed-with}
use Rattle.nodes.specs.Open.{Cur, Tail, left_of, none, shares_at, symbol_of}
use Rattle.nodes.specs.Writing.{Behind, Closing, RecordsDone, LeafPut, NameAsk, NameAt, NamePut, CloseAsk, NodePut, NodesPut, Onward, Passing, PutBack, Rowing}
use Rattle.nodes.proofs.Open.{Closes, cur-all, cur-close, cur-few, cur-keep, cur-leaf, cur-push, node_by, open-depth, open-few, open-within}

-- ---- one record more, in front of those at the end of a room

node-cons : (r : Node) (rs : List Node) → node_part (r ∷ rs) ≡ numbers (fields r) ++ node_part rs
unfolding node_part all_fields
node-cons r rs = numbers-append (fields r) (all_fields rs)

module _ (room : Bytes) (w : ℕ) (node : Node) where
  pub back_full : length room < (w + 1) * node_size → PutBack room room w node
  back_full h = record { kept = refl; tail = λ done e t l. absurd (lt_irrefl w (omega arith)) }

  pub back_more : (ys new : Bytes) (a b : ℕ) → (w + 1) * node_size ≤ length room → a ≡ length room - (w + 1) * node_size → b ≡ a + node_size
      → ys ≡ numbers (fields node) → new ≡ take a room ++ (ys ++ drop (b - a) (drop a room)) → PutBack room new w node
  back_more ys new a b h e g y is =
      let front : length (take a room) ≡ a = length-take-le a room (omega arith) in
      let size : length ys ≡ node_size = ap length y ∙ numbers-length (fields node) in
      let same : length new ≡ length room = ap length is ∙ simp (length-append, length-drop, front, size) (omega arith) in
      record {
        kept = same;
        tail = λ done c t l.
            let o : length new - suc (length done) * node_size ≡ a = omega arith in
            let k : a + (b - a) ≡ length room - length done * node_size = omega arith in
            ap₂ drop o is ∙ drop_at (take a room) (ys ++ drop (b - a) (drop a room)) a front
            ∙ ap₂ (λ (x z : Bytes). x ++ z) y (drop-drop (b - a) a room ∙ ap (λ (i : ℕ). drop i room) k ∙ t (omega arith))
            ∙ sym (node-cons node done);
      }

-- ---- symbols

module _ (skip p : ℕ) (w : List ℕ) where
  pub symbol-root : p ≡ 0 → 0 ≡ symbol_of (p - skip) w
  symbol-root e = let z : p - skip ≡ 0 = omega arith in ap (λ (i : ℕ). symbol_of i w) (sym z)

  pub symbol-under : (r : ℕ) → (p ≡ 0 → ⊥) → skip ≤ pred p → r ≡ at w (p - 1 - skip) → r ≡ symbol_of (p - skip) w
  symbol-under r z h e = let i : p - skip ≡ suc (p - 1 - skip) = omega arith in e ∙ ap (λ (x : ℕ). symbol_of x w) (sym i)

pub symbol-shifted : (ρ : Rule) (s : Bytes) (skip p : ℕ) → (p ≡ 0 → ⊥) → skip + length s < p → 0 ≡ symbol_of (p - skip) (word ρ s)
symbol-shifted ρ s skip p z h =
    let i : p - skip ≡ suc (p - 1 - skip) = omega arith in
    sym (ap (λ (x : ℕ). symbol_of x (word ρ s)) i ∙ at-past (word ρ s) (p - 1 - skip) (omega (arith, length-map s ρ)))

-- ---- a name, and the nodes that begin with it

module _ {ρ : Rule} {rest : Bytes} {skip j left : ℕ} where
  module _ {ws : Words} (a : NameAt ρ ws rest skip j left) where
    -- no symbol is asked for that is not lent
    symbol-is : (p : ℕ) → left ≤ p → symbol_of (p - skip) (word ρ rest) ≡ symbol_of p (nth ws j)
    symbol-is zero h = sym (symbol-root skip zero (word ρ rest) refl)
    symbol-is (suc p) h =
        let i : suc p - skip ≡ suc (p - skip) = omega (arith, a.skipped) in
        let back : skip + (p - skip) ≡ p = omega (arith, a.skipped) in
        ap (λ (x : ℕ). symbol_of x (word ρ rest)) i ∙ ap (λ (x : List ℕ). at x (p - skip)) (sym a.piece)
        ∙ get_or-drop skip (nth ws j) (p - skip) 0 ∙ ap (at (nth ws j)) back

    module _ {frames : List Frame} where
      leaf-closing : {top count : ℕ} {room₀ room : Bytes} {sy : ℕ} → Behind ws j frames top count room₀ → PutBack room₀ room count (node_by sy (skip + length rest + 1) j 1 1 (skip + length rest))
          → sy ≡ symbol_of (max left (depth_in frames top)) (nth ws j)
          → Closing ws j left frames (record { top = top; count = count + 1; end = j + 1; mark = count; width = skip + length rest }) room
      leaf-closing {top} {count} {room₀} {room} {sy} b put e =
          let w : RecordsDone (length ws) (suc j) count room₀ b.done = b.written in
          let size : skip + length rest ≡ length (nth ws j) = sym a.whole in
          let node : Node = leaf j (symbol_of (max left (depth_in frames top)) (nth ws j)) (nth ws j) in
          let c : Cur ws frames j left top (suc j) (length b.done) (length (nth ws j)) (node ∷ b.done) = cur-leaf ws a.rises frames left b.rows in
          record {
            done = node ∷ b.done;
            written = record {
              counted = omega (arith, w.counted);
              tail = subst (Tail room) (ap₂ (λ (x y : ℕ). node_by x y j 1 1 (length (nth ws j)) ∷ b.done) e (add-one (length (nth ws j)))) ((rw size at put).tail b.done (sym w.counted) w.tail);
              few = omega (arith, w.few);
            };
            cur = rw (add-one j, w.counted, size) c;
          }

      module _ {p : LeftOpen} {room₀ : Bytes} (f : FramesStand frames p.top) (h : left < depth_in frames p.top) (k : Closing ws j left frames p room₀) where
        closes : Closes ws a.rises frames k.cur
        closes = cur-close ws a.rises frames k.cur f.sentinel h

        node-closing : {room : Bytes} (sy : ℕ) → sy ≡ symbol_of (max left (depth_in frames (p.top - 1))) (nth ws j)
            → PutBack room₀ room p.count (node_by sy (depth_in frames p.top - 1) j (end_in frames p.top - j) (p.count - mark_in frames p.top + 1)
            (max p.width (width_in frames p.top)))
            → Closing ws j left frames (record { top = p.top - 1; count = p.count + 1; end = end_in frames p.top; mark = mark_in frames p.top; width = max p.width (width_in frames p.top) }) room
        node-closing {room} sy e put =
            let w : RecordsDone (length ws) j p.count room₀ k.done = k.written in
            let c = closes.next in
            let node : ℕ → ℕ → Node = λ (x y : ℕ). node_by x (depth_in frames p.top - 1) j (end_in frames p.top - j) (y - mark_in frames p.top + 1) (max p.width (width_in frames p.top)) in
            record {
              done = node (symbol_of (max left (depth_in frames (p.top - 1))) (nth ws j)) (length k.done) ∷ k.done;
              written = record {
                counted = omega (arith, w.counted);
                tail = subst (Tail room) (ap₂ (λ (x y : ℕ). node x y ∷ k.done) e w.counted) (put.tail k.done (sym w.counted) w.tail);
                few = omega (arith, cur-few ws a.rises frames c, w.counted);
              };
              cur = c;
            }

  module _ {frames : List Frame} where
    pub leaf-put : {room₀ room : Bytes} {count sy : ℕ} → PutBack room₀ room count (node_by sy (skip + length rest + 1) j 1 1 (skip + length rest)) → {top : ℕ} → NameAsk ρ rest skip j left frames top count room₀
        → (x p : ℕ) → x ≡ depth_in frames top → p ≡ max left x → sy ≡ symbol_of (p - skip) (word ρ rest)
        → LeafPut ρ rest skip j left frames top count room₀ (record { top = top; count = count + 1; end = j + 1; mark = count; width = skip + length rest }) room
    leaf-put put {top} ask x p d e f = record {
      passing = record {
        kept = put.kept;
        framed = ask.framed;
        closing = λ ws name behind.
            leaf-closing name behind put (f ∙ symbol-is name p (omega arith) ∙ ap (λ (i : ℕ). symbol_of i (nth ws j)) (e ∙ ap (max left) d));
      };
      same = refl;
    }

    module _ {p : LeftOpen} {room₀ : Bytes} (a : CloseAsk ρ rest skip j left frames p room₀) where
      last : Closes a.ws a.name.rises frames a.closing.cur
      last = closes a.name a.framed a.deeper a.closing

      pub node-some : 0 < p.top
      node-some = last.some

      pub node_end : (e : ℕ) → e ≡ end_in frames p.top → j ≤ e
      node_end e is = omega (arith, last.end-behind, a.closing.cur.some)

      pub node-mark : (m : ℕ) → m ≡ mark_in frames p.top → m ≤ p.count
      node-mark m is = omega (arith, last.mark-behind, a.closing.written.counted)

    pub node-put : {room₀ room : Bytes} {p : LeftOpen} {sy d e m t w : ℕ} → CloseAsk ρ rest skip j left frames p room₀
        → PutBack room₀ room p.count (node_by sy (d - 1) j (e - j) t w) → t ≡ p.count - m + 1 → (x q y : ℕ) → d ≡ depth_in frames p.top → e ≡ end_in frames p.top → m ≡ mark_in frames p.top
        → y ≡ width_in frames p.top → w ≡ max p.width y
        → x ≡ depth_in frames (p.top - 1) → q ≡ max left x → sy ≡ symbol_of (q - skip) (word ρ rest)
        → NodePut ρ rest skip j left frames p room₀ (record { top = p.top - 1; count = p.count + 1; end = e; mark = m; width = w }) room
    node-put {p = p} {sy = sy} {w = w} a put te x q y de ee me ye we xe qe f = record {
      onward = record {
        kept = put.kept;
        down = omega arith;
        closing = λ ws name k. rw (ee, me, wide)
            (node-closing name a.framed a.deeper k sy (f ∙ symbol-is name q (omega arith) ∙ ap (λ (i : ℕ). symbol_of i (nth ws j)) (qe ∙ ap (max left) xe)) (rw (de, ee, te, me, wide) at put));
      };
      fewer = omega (arith, node-some a);
    }
      where
        wide : w ≡ max p.width (width_in frames p.top)
        wide = we ∙ ap (max p.width) ye

    -- ---- frame after frame

    pub onward-start : {room : Bytes} {p : LeftOpen} → Onward ρ rest skip j left frames p room p room
    onward-start = record { kept = refl; down = omega arith; closing = λ ws name k. k }

    pub onward-more : {p q r : LeftOpen} {room₀ room new : Bytes} → Onward ρ rest skip j left frames p room₀ q room
        → NodePut ρ rest skip j left frames q room r new → Onward ρ rest skip j left frames p room₀ r new
    onward-more k n = record {
      kept = n.onward.kept ∙ k.kept;
      down = omega (arith, n.onward.down, k.down);
      closing = λ ws name c. n.onward.closing ws name (k.closing ws name c);
    }

    pub passing-on : {top count : ℕ} {room₀ room new : Bytes} {p q : LeftOpen} → Passing ρ rest skip j left frames top count room₀ p room → Onward ρ rest skip j left frames p room q new
        → Passing ρ rest skip j left frames top count room₀ q new
    passing-on k n = record {
      kept = n.kept ∙ k.kept;
      framed = record { sentinel = k.framed.sentinel; slots = k.framed.slots; slot = omega (arith, n.down, k.framed.slot) };
      closing = λ ws name behind. n.closing ws name (k.closing ws name behind);
    }

    module _ {top count : ℕ} {room₀ room : Bytes} {p : LeftOpen} (k : Passing ρ rest skip j left frames top count room₀ p room) (x : ℕ) (d : x ≡ depth_in frames p.top) where
      pub passing-deeper : NameAsk ρ rest skip j left frames top count room₀ → left < x → CloseAsk ρ rest skip j left frames p room
      passing-deeper a h = record {
        framed = k.framed;
        deeper = omega arith;
        ws = a.ws;
        name = a.name;
        closing = k.closing a.ws a.name a.behind;
      }

      pub passing-done : x ≤ left → NamePut ρ rest skip j left frames top count room₀ p room
      passing-done h = record { passing = k; shallow = omega arith }

-- ---- what is noted of each name

module _ {ρ : Rule} {s : Bytes} {n : ℕ} (notes : List Note) {counts shares : List ℕ} (a : Ready ρ s n (lens_of notes) counts shares) where
  pub noted-room : n ≤ length notes
  noted-room = omega (arith, a.total, a.noted.lens-room, lens-length notes)

  pub noted_size : (i : ℕ) → i < n → (len : ℕ) → len ≡ (get_or notes i (record { len = 0; count = 0; share = 0 })).len → len ≡ get_or (lens_of notes) i 0
  noted_size i h len e = e ∙ sym (lens-at notes i (record { len = 0; count = 0; share = 0 }) (omega (arith, noted-room)))

-- ---- the walk over all names, from the last

module _ {ρ : Rule} {s : Bytes} {n : ℕ} {lens counts shares : List ℕ} (a : Ready ρ s n lens counts shares) where
  pub all_words : length (words ρ s) ≡ n
  all_words = omega (arith, words-length ρ s, a.total)

  -- what a name shares with the one before was noted
  left_is : (j left : ℕ) → j < n → (j ≡ 0 → left ≡ 0) → (0 < j → left ≡ suc (get_or shares j 0)) → left ≡ left_of (words ρ s) j
  left_is zero left h z l = z refl
  left_is (suc i) left h z l =
      l (omega arith) ∙ ap suc (a.noted.alike i (omega (arith, a.total)) ∙ ap₂ shared (sym (ready-word a i)) (sym (ready-word a (suc i))))

  left-low : (j : ℕ) → j < n → left_of (words ρ s) j ≤ 200
  left-low zero h = zero-le
  left-low (suc i) h =
      omega (
        arith,
        less-short (nth (words ρ s) i) (nth (words ρ s) (suc i)) (nth-less (words ρ s) i (suc i) (ready-rises a) (omega arith) (omega (arith, all_words))),
        ap length (ready-word a (suc i)),
        length-map (get_or (names s) (suc i) []) ρ,
        (ready-size a (suc i) h).1,
      )

  pub rowing_start : (room : Bytes) → Rowing ρ s n room room (replicate frame_count no_frame) 0 0 (length s) n
  unfolding node_part all_fields numbers
  rowing_start room = record {
    low = omega arith;
    here = sym (start-all a);
    kept = refl;
    framed = record { sentinel = refl; slots = refl; slot = omega arith };
    done = [];
    written = record {
      counted = refl;
      tail = λ l. let o : length room - 0 * node_size ≡ length room = omega arith in ap (λ (i : ℕ). drop i room) o ∙ drop-length room;
      few = omega (arith, all_words);
    };
    rows = λ l. none (sym all_words);
    all = λ e. sym (table_empty (words ρ s) (omega (arith, all_words)));
  }

  module _ {room₀ room : Bytes} {frames : List Frame} {top count end j : ℕ} (k : Rowing ρ s n room₀ room frames top count end j) where
    module _ (h : 0 < j) (len : ℕ) (size : len ≡ get_or lens (j - 1) 0) where
      abbrev i : ℕ
      i = j - 1

      is : suc i ≡ j
      is = omega arith

      in_list : i < n
      in_list = omega (arith, k.low)

      len_is : len ≡ length (get_or (names s) i [])
      len_is = size ∙ a.noted.sizes i (omega (arith, k.low, a.total))

      back : end ≡ start_of s i + 1 + len
      back = k.here ∙ ap (start_of s) (sym is) ∙ start-next a i in_list ∙ omega (arith, len_is)

      pub rowing-name-fits : len ≤ end
      rowing-name-fits = omega (arith, back)

      pub rowing-back : 1 ≤ end - len
      rowing-back = omega (arith, back)

      pub rowing-within : end ≤ length s
      rowing-within = omega (arith, back, len_is, start_fits a i in_list)

      start_is : end - len - 1 ≡ start_of s i
      start_is = omega (arith, back)

      -- the bytes that are lent are the name
      lent_is : take (end - (end - len)) (drop (end - len) s) ≡ get_or (names s) i []
      lent_is =
          let from : end - len ≡ start_of s i + 1 = omega (arith, back) in
          let so-many : end - (end - len) ≡ length (get_or (names s) i []) = omega (arith, back, len_is) in
          ap₂ (λ (x o : ℕ). take x (drop o s)) so-many from ∙ start-name a i in_list

      module _ (left : ℕ) (z : i ≡ 0 → left ≡ 0) (l : 0 < i → left ≡ suc (get_or shares i 0)) where
        pub rowing-left : left ≤ 200
        rowing-left = omega (arith, left_is i left in_list z l, left-low i in_list)

        name : NameAt ρ (words ρ s) (take (end - (end - len)) (drop (end - len) s)) 0 i left
        name =
            let y : Bytes = get_or (names s) i [] in
            let short : length (take (end - (end - len)) (drop (end - len) s)) ≡ length y = ap length lent_is in
            record {
              rises = ready-rises a;
              few = omega (arith, all_words, a.few);
              within = omega (arith, all_words);
              piece = ready-word a i ∙ ap (word ρ) (sym lent_is);
              whole = ap length (ready-word a i) ∙ length-map y ρ ∙ omega (arith, short);
              size = omega (arith, short, (ready-size a i in_list).1);
              skipped = zero-le;
            }

        behind : Behind (words ρ s) i frames top count room
        behind = let b : pred j ≡ j - 1 = omega arith in record { done = k.done; written = rw is k.written; rows = rw (is, ← b) (k.rows h) }

        pub rowing-name : NameAsk ρ (take (end - (end - len)) (drop (end - len) s)) 0 i left frames top count room
        rowing-name = record { framed = k.framed; ws = words ρ s; name = name; behind = behind }

        module _ {p : LeftOpen} {new : Bytes} (t : NamePut ρ (take (end - (end - len)) (drop (end - len) s)) 0 i left frames top count room p new) where
          pub rowing-closing : Closing (words ρ s) i left frames p new
          rowing-closing = t.passing.closing (words ρ s) name behind

          cur : Cur (words ρ s) frames i left p.top p.end p.mark p.width rowing-closing.done
          cur = rowing-closing.cur

          -- no name is longer than 200 bytes
          narrow : p.width < 256
          narrow =
              let end : p.end ≤ length (words ρ s) = open-within (words ρ s) (ready-rises a) frames cur.open-rows in
              omega (
                arith,
                cur.wide,
                widest-low 200 (span-all (words ρ s) i p.end (omega (arith, cur.some)) end (λ x l m.
                    omega (arith, ap length (ready-word a x), length-map (get_or (names s) x []) ρ, (ready-size a x (omega (arith, all_words))).1))),
              )

          pub rowing-wide : RaiseAsk p
          rowing-wide = record { slot = t.passing.framed.slot; width_fits = narrow }

          -- frames deepen, so there are at most as many as depths
          pub rowing-room : (x : ℕ) → x ≡ depth_in frames p.top → x < left → PushAsk left p
          rowing-room x d g = record {
            slot = omega (arith, open-depth (words ρ s) (ready-rises a) frames k.framed.sentinel cur.open-rows, rowing-left);
            depth-fits = omega (arith, rowing-left);
            width_fits = narrow;
            end_fits = omega (arith, open-within (words ρ s) (ready-rises a) frames cur.open-rows, all_words, a.few);
            mark-fits = omega (arith, open-few (words ρ s) (ready-rises a) frames cur.open-rows cur.some, cur.behind, all_words, a.few);
          }

          left-shares : 0 < i → left ≡ suc (shares_at (words ρ s) i)
          left-shares g = left_is i left in_list z l ∙ go i g
            where
              go : (m : ℕ) → 0 < m → left_of (words ρ s) m ≡ suc (shares_at (words ρ s) m)
              go zero q = absurd (not-suc-le-zero q)
              go (suc m) q = refl

          pub rowing-keep : (x : ℕ) → x ≡ depth_in frames p.top → left ≤ x → (more : List Frame) (onto : ℕ) → more ≡ raised frames p.top p.width → onto ≡ p.top
              → Rowing ρ s n room₀ new more onto p.count (end - len - 1) i
          rowing-keep x d g more onto e f = rw (e, f) (record {
            low = omega (arith, k.low);
            here = start_is;
            kept = t.passing.kept ∙ k.kept;
            framed = framed-raised p.width t.passing.framed;
            done = rowing-closing.done;
            written = rowing-closing.written;
            rows = λ q. cur-keep (words ρ s) (ready-rises a) frames cur k.framed.sentinel q (left-shares q) (omega (arith, t.shallow)) (omega (arith, k.framed.slots, t.passing.framed.slot));
            all = λ q. cur-all (words ρ s) (ready-rises a) frames cur k.framed.sentinel q (z q) t.shallow;
          })

          pub rowing_push : (x : ℕ) → x ≡ depth_in frames p.top → x < left → (more : List Frame) (onto : ℕ) → more ≡ with_frame frames (p.top + 1) left p.width p.end p.mark
              → onto ≡ p.top + 1 → Rowing ρ s n room₀ new more onto p.count (end - len - 1) i
          rowing_push x d g more onto e f = let slot : p.top + 1 < frame_count = (rowing-room x d g).slot in rw (e, f, add-one p.top) (record {
            low = omega (arith, k.low);
            here = start_is;
            kept = t.passing.kept ∙ k.kept;
            framed = framed-with left p.width p.end p.mark t.passing.framed (omega arith);
            done = rowing-closing.done;
            written = rowing-closing.written;
            rows = λ q. cur-push (words ρ s) (ready-rises a) frames cur q (left-shares q) (omega arith) (omega (arith, k.framed.slots));
            all = λ q. absurd (lt_irrefl 0 (omega (arith, z q)));
          })

    pub rowing-all : j ≤ 0 → NodesPut ρ s room₀ room count
    rowing-all h =
        let e : k.done ≡ table (words ρ s) = k.all (omega arith) in
        record {
          nodes = k.written.counted ∙ ap length e;
          put = λ p.
              let size : length room ≡ length k.done * node_size = omega (arith, k.kept, ap length e) in
              let o : length room - length k.done * node_size ≡ 0 = omega arith in
              sym (ap (λ (i : ℕ). drop i room) o) ∙ k.written.tail (omega arith) ∙ ap node_part e;
        }
