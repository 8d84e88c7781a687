-- Loops that read items whose keys ascend.
use Rattle.std.proofs.Common.{◌≡◌, ℕ, suc, ◌+◌, ◌-◌, ◌<◌, List, [], ◌∷◌, ◌++◌, Result, Ok, refl, sym, arith}
use Rattle.cg_codec.specs.declared.fault.CodecFault.{CodecFault}
use Rattle.cg_codec.specs.Reading.{Unread, Reading, take_items}
use Rattle.cg_codec.specs.ItemLaws.{items_go_on}
use Rattle.cg_records.specs.Reading.{last_of}
use Rattle.cg_base.specs.AscendingLaws.{AllBelow, AllBelow-more, AllBelow-push}
use Rattle.cg_records.specs.RecordLaws.{last_of-push}

-- i of the items were read, with these keys
pub record ReadSoFar {X : Type 0} (item : List X →
    Reading X) (total : Result (List X × Unread) CodecFault) (count i last : ℕ) (keys : List ℕ) (taken : List X)
    (left : Unread) : Type 0 where
  pub rest : take_items item (count - i) taken left ≡ total
  pub last_key : last ≡ last_of keys
  pub below : AllBelow (suc last) keys

pub ReadSoFar-none : {X : Type 0} (item : List X →
    Reading X) (total : Result (List X × Unread) CodecFault) (count : ℕ) (left : Unread)
    → take_items item count [] left ≡ total → ReadSoFar item total count 0 0 [] [] left
ReadSoFar-none item total count left e =
    let all : count - 0 ≡ count = omega arith in
    record { rest = rw all e; last_key = refl; below = tt }

pub ReadSoFar-more : {X : Type 0} (item : List X →
    Reading X) (total : Result (List X × Unread) CodecFault) (count i last : ℕ) (keys : List ℕ) (taken : List X) (left
    after : Unread) (x : X) (key : ℕ)
    → ReadSoFar item total count i last keys taken left → i < count → item taken left ≡ Ok (x, after) → last < key
    → ReadSoFar item total count (i + 1) key (keys ++ key ∷ []) (taken ++ x ∷ []) after
ReadSoFar-more item total count i last keys taken left after x key so_far lt one above = record {
  rest = items_go_on item count i taken left after x total lt one so_far.rest;
  last_key = sym (last_of-push keys key);
  below = AllBelow-push keys key (suc key) (omega arith) (AllBelow-more
      keys (suc last) (suc key) (omega arith) so_far.below);
}
