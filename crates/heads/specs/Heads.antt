-- Two lists that are gone through record by record.
--     RestOf            the records from an offset on are those of some names, which rise
--     OrderSays         how two names stand to each other
--     list_at, list_number     the list at a side, and its number
--     head_in            a head, by its numbers
--     HeadAsk           what is asked for the lesser head of two lists
--     shown_by           the head as a step shows it
--     HeadStep, HeadSays    it is the next name of the union, and the lesser head; for any names that the records are
-- The laws are in proofs/. Assumes nothing: these are definitions.
use Rattle.std.specs.Prelude.{ℕ, ◌+◌, ◌-◌, ◌≤◌, ◌<◌, ◌≡◌, true, List, [], ◌∷◌, drop, get_or, length, take}
use Rattle.std.specs.declared.cmp.Ordering.{Ordering}
use Rattle.std.specs.declared.cmp.Ordering.TheVariants.{Equal, Greater, Less}
use Rattle.words.specs.Words.{Bytes, less, plain, word}
use Rattle.format.specs.Records.{encode, rising}
use Rattle.format.specs.Merging.{merged}
use Rattle.answers.specs.Heads.{Head, lesser_head}
use Rattle.heads.specs.declared.Next.{Next}
use Rattle.heads.specs.declared.Side.{Side}
use Rattle.heads.specs.declared.Side.TheVariants.{First, Second}

abbrev pub OrderSays : Bytes → Bytes → Ordering → Type 0
OrderSays x y Less = less (word plain x) (word plain y) ≡ true
OrderSays x y Greater = less (word plain y) (word plain x) ≡ true
OrderSays x y Equal = word plain x ≡ word plain y

abbrev pub list_at : Side → Bytes → Bytes → Bytes
list_at First first second = first
list_at Second first second = second

abbrev pub list_number : Side → ℕ
list_number First = 1
list_number Second = 2

abbrev pub head_in : Side → ℕ → ℕ → ℕ → ℕ → Next
head_in side from size left right = record { side = side; from = from; size = size; left = left; right = right }

pub record RestOf (s : Bytes) (at : ℕ) (xs : List Bytes) : Type 0 where
  pub within : at ≤ length s
  pub bytes : drop at s ≡ encode xs
  pub rises : rising plain [] xs ≡ true

-- they have not both ended
pub record HeadAsk (first : Bytes) (i : ℕ) (second : Bytes) (j : ℕ) : Type 0 where
  pub xs : List Bytes
  pub ys : List Bytes
  pub ahead : RestOf first i xs
  pub beside : RestOf second j ys
  pub some : 0 < length xs + length ys

-- the head that r tells, as a step shows it: without its length byte
abbrev pub shown_by : Next → Head
shown_by r = (list_number r.side, r.from + 1, r.size - 1)

-- `name` comes next, its record stands where r says, which is the lesser head, and the lists go on with others
pub record HeadStep (first second : Bytes) (i j : ℕ) (xs ys : List Bytes) (r : Next) : Type 0 where
  pub name : Bytes
  pub xs-left : List Bytes
  pub ys-left : List Bytes
  pub is : merged plain xs ys ≡ name ∷ merged plain xs-left ys-left
  pub ahead : RestOf first r.left xs-left
  pub beside : RestOf second r.right ys-left
  pub some : 0 < r.size
  pub onward : i + j + r.size ≤ r.left + r.right
  pub fits : r.from + r.size ≤ length (list_at r.side first second)
  pub record_is : take r.size (drop r.from (list_at r.side first second)) ≡ encode (name ∷ [])
  pub lesser : shown_by r ≡ lesser_head (1, i + 1, length (get_or xs 0 [])) (2, j + 1, length (get_or ys 0 [])) xs ys

abbrev pub HeadSays : Bytes → ℕ → Bytes → ℕ → Next → Type 0
HeadSays first i second j r = (xs ys : List Bytes) → RestOf first i xs → RestOf second j ys → 0 < length xs + length ys → HeadStep first second i j xs ys r
