-- The ways out of the announcer's calls, by what a check or a batch told.
--     refuse-kind, refuse-table, refuse-none     what refuses both calls, of a book
--     said-nothing, said-no, said-long, said-exact, said-range, said-count     a text; exact-clip, range-clip: the clip that is spoken stands in the table
--     checked           what a check told
--     sent-nothing, sent-no, sent-long, sent-bad, sent-short, sent     a route; route-inside: its clips stand in the table
-- Assumes nothing.
use Prim.Native.Nat.{ℕ, ◌*◌, ◌<◌, ◌≤◌}
use native.Mathlib.Omega.{arith}
use mathlib.Core.Path.{◌≡◌, refl, sym, ap, ◌∙◌}
use mathlib.Core.Bool.{Bool, true, false, not}
use mathlib.Core.List.{List}
use lib.ListN.{get_or, length}
use Rattle.words.specs.Words.{Bytes}
use Rattle.format.specs.Full.{is_full}
use Rattle.format.specs.Kinds.{kind_of}
use Rattle.format.specs.Outcomes.{Answer as Numbers, given, over, refused}
use Rattle.answers.specs.Announcing.{Clips, clip_of, refusal}
use Rattle.answers.specs.Calls.{check, question}
use Rattle.answers.specs.Routes.{Routed, clips_at, first_bad, route_of}
use Rattle.answers.proofs.Announcing.{clip-count, clip-exact, clip-long, clip-range, clip-refused, exact-within, range-within, ready-parts, refusal-code, refusal-kind, refusal-none, refusal-table}
use Rattle.answers.proofs.Routes.{bad-good, bad-here, bad-none, route-bad, route-given, route-long, route-refused, route-short}
use native.Mathlib.Nat.{lt_irrefl}
use Rattle.std.proofs.Common.{Ok, Err}
use Rattle.refusals.specs.Refusals.{said}
use Rattle.refusals.specs.declared.Refusal.{Refusal}
use Rattle.refusals.specs.declared.Refusal.TheVariants.{BadBatch, BadClipTable, NoBook, NoSuchPosition, QuestionTooLong, RoomTooShort}
use Rattle.refusals.proofs.Codes.{refusal-some}
use Rattle.shapes.specs.Shapes.{answered}
use Rattle.shapes.specs.Endings.{outcome}
use Rattle.shapes.specs.declared.Answer.{Answer}
use Rattle.announcer.specs.Asking.{Hears, Inside, Told, served}
use Rattle.announcer.specs.declared.Heard.{Heard}

-- ---- what refuses both

-- a refusal has a number
refuses : (e : Refusal) {code : ℕ} → said e ≡ refused code → code ≡ 0 → ⊥
refuses e is z = lt_irrefl 0 (omega (arith, refusal-some e, ap (λ (n : Numbers). n.code) is))

module _ {s : Bytes} (clips : Clips) {n : ℕ} (t : Told s n) (full : Bool) (is : full ≡ is_full (kind_of s)) where
  pub refuse-kind : not full ≡ true → served (Err NoBook) ≡ refused (refusal s clips)
  refuse-kind e = ap refused (refusal-kind s clips t.sound (sym is ∙ go full e))
    where
      go : (b : Bool) → not b ≡ true → b ≡ false
      go false f = refl
      go true f = sym f

  module _ (e : not full ≡ false) where
    yes-full : is_full (kind_of s) ≡ true
    yes-full = sym is ∙ go full e
      where
        go : (b : Bool) → not b ≡ false → b ≡ true
        go true f = refl
        go false f = sym f

    pub refuse-table : (length clips ≡ n → ⊥) → served (Err BadClipTable) ≡ refused (refusal s clips)
    refuse-table f = ap refused (refusal-table s clips t.sound yes-full (λ g. f (g ∙ sym t.names)))

    pub refuse-none : length clips ≡ n → served (Ok tt) ≡ refused (refusal s clips)
    refuse-none f = ap refused (refusal-none s clips t.sound yes-full (f ∙ t.names))

-- ---- a text

pub said-nothing : (s text : Bytes) (clips : Clips) → ((check s).code ≡ 0 → ⊥) → (a : Answer) → answered a ≡ said NoBook → answered a ≡ clip_of s clips text
said-nothing s text clips n a e = e ∙ clip-refused s clips text 2 (refusal-code s clips n) (λ z. lt_irrefl 0 (omega arith))

pub said-no : (s text : Bytes) (clips : Clips) (e : Refusal) → said e ≡ refused (refusal s clips) → (a : Answer) → answered a ≡ said e → answered a ≡ clip_of s clips text
said-no s text clips e is a f = f ∙ is ∙ clip-refused s clips text (refusal s clips) refl (refuses e is)

module _ {s text : Bytes} {r : Heard} (h : Hears s text r) (clips : Clips) (taken : given 0 0 ≡ refused (refusal s clips)) where
  ready : 0 ≡ refusal s clips
  ready = ap (λ (n : Numbers). n.code) taken

  pub said-long : (a : Answer) → 200 < length text → answered a ≡ said QuestionTooLong → answered a ≡ clip_of s clips text
  said-long a l e = e ∙ clip-long s clips text ready l

  first_of : {x : Answer} {y : Numbers} → answered x ≡ y → x.first ≡ y.first
  first_of e = ap (λ (n : Numbers). n.first) e

  second-of : {x : Answer} {y : Numbers} → answered x ≡ y → x.second ≡ y.second
  second-of e = ap (λ (n : Numbers). n.second) e

  pub exact-clip : r.exact.second ≡ 1 → r.exact.first < length clips
  exact-clip one =
      let p = ready-parts s clips ready in
      omega (arith, exact-within s text p.sound (sym (second-of h.exact) ∙ one), first_of h.exact, p.table)

  pub range-clip : r.range.second ≡ 1 → r.range.first < length clips
  range-clip one =
      let p = ready-parts s clips ready in
      omega (arith, range-within s text p.sound (sym (second-of h.range) ∙ one), first_of h.range, p.table)

  module _ (short : length text ≤ 200) where
    pub said-exact : (a : Answer) → r.exact.second ≡ 1 → answered a ≡ given 1 (get_or clips r.exact.first 0) → answered a ≡ clip_of s clips text
    said-exact a one e = e ∙ ap (λ (i : ℕ). given 1 (get_or clips i 0)) (first_of h.exact) ∙ clip-exact s clips text ready short (sym (second-of h.exact) ∙ one)

    module _ (none : r.exact.second ≡ 1 → ⊥) where
      no-exact : (question 1 s text).second ≡ 1 → ⊥
      no-exact e = none (second-of h.exact ∙ e)

      pub said-range : (a : Answer) → r.range.second ≡ 1 → answered a ≡ given 1 (get_or clips r.range.first 0) → answered a ≡ clip_of s clips text
      said-range a one e = e ∙ ap (λ (i : ℕ). given 1 (get_or clips i 0)) (first_of h.range) ∙ clip-range s clips text ready short no-exact (sym (second-of h.range) ∙ one)

      pub said-count : (a : Answer) → (r.range.second ≡ 1 → ⊥) → answered a ≡ given 0 r.range.second → answered a ≡ clip_of s clips text
      said-count a other e = e ∙ ap (given 0) (second-of h.range) ∙ clip-count s clips text ready short no-exact (λ f. other (second-of h.range ∙ f))

-- ---- a route

pub checked : {s : Bytes} (a : Answer) → answered a ≡ check s → a.code ≡ 0 → Told s a.first
checked {s} a e z = record { sound = sym (ap (λ (n : Numbers). n.code) e) ∙ z; names = ap (λ (n : Numbers). n.first) e }

module _ (s : Bytes) (clips : Clips) (ps : List ℕ) (room : Clips) where
  -- the room as it was
  abbrev left : Refusal → Routed
  left e = record { answer = said e; room = room }

  pub sent-nothing : (a : Answer) → answered a ≡ check s → (a.code ≡ 0 → ⊥) → left NoBook ≡ route_of s clips ps room
  sent-nothing a e n =
      route-refused s clips ps room 2 (refusal-code s clips (λ z. n (ap (λ (m : Numbers). m.code) e ∙ z))) (λ z. lt_irrefl 0 (omega arith))

  pub sent-no : (e : Refusal) → said e ≡ refused (refusal s clips) → left e ≡ route_of s clips ps room
  sent-no e is = ap (λ (x : Numbers). record { answer = x; room = room }) is ∙ route-refused s clips ps room (refusal s clips) refl (refuses e is)

  module _ (taken : given 0 0 ≡ refused (refusal s clips)) where
    open-route : 0 ≡ refusal s clips
    open-route = ap (λ (n : Numbers). n.code) taken

    pub sent-long : 120 < length ps → left BadBatch ≡ route_of s clips ps room
    sent-long l = route-long s clips ps room open-route l

    module _ (few : length ps ≤ 120) {n : ℕ} (told : Told s n) where
      bads : {i : ℕ} → i ≡ first_bad n ps → i ≡ first_bad (check s).first ps
      bads is = is ∙ ap (λ (m : ℕ). first_bad m ps) told.names

      pub sent-bad : (bad : ℕ) → (bad < length ps) × (n ≤ get_or ps bad 0) × ((k : ℕ) → k < bad → get_or ps k 0 < n) → left (NoSuchPosition bad) ≡ route_of s clips ps room
      sent-bad bad b =
          let first = bad-here ps bad (record { passed = omega (arith, b.0); below = b.2 }) b.0 b.1 in
          route-bad s clips ps room open-route few bad (bads first) (λ e. lt_irrefl bad (omega (arith, b.0)))

      module _ (good : (k : ℕ) → k < length ps → get_or ps k 0 < n) where
        all-good : length ps ≡ first_bad (check s).first ps
        all-good = bads (bad-none ps (length ps) (record { passed = omega arith; below = good }) (omega arith))

        pub sent-short : length room < length ps → left RoomTooShort ≡ route_of s clips ps room
        sent-short l = route-short s clips ps room open-route few (length ps) all-good refl l

        module _ (enough : length ps ≤ length room) where
          pub route-inside : Inside clips ps room
          route-inside = record {
            within = λ i l. omega (arith, (bad-good {n = (check s).first} ps).below i (omega (arith, all-good)), (ready-parts s clips open-route).table);
            enough = enough;
          }

          pub sent : (after : Clips) → after ≡ over (clips_at clips ps) room → record { answer = outcome (Ok (2 * length ps)); room = after } ≡ route_of s clips ps room
          sent after w = ap (λ (y : Clips). record { answer = given (2 * length ps) 0; room = y }) w ∙ route-given s clips ps room open-route few (length ps) all-good refl enough
