-- Reading items one after the other, as a loop does: what is still to be read, behind those that were taken, gives what the whole list gives.
use Rattle.std.proofs.Common.{◌≡◌, ◌≢◌, ℕ, suc, ◌-◌, ◌+◌, ◌≤◌, ◌<◌, List, [], ◌∷◌, ◌++◌, Result, Ok, Err, refl, sym, ◌∙◌, arith}
use Rattle.cg_codec.specs.declared.fault.CodecFault.{CodecFault}
use Rattle.cg_codec.specs.declared.fault.CodecFault.TheVariants.{NoMemory}
use Rattle.cg_codec.specs.Reading.{Unread, Reading, take_items}

-- how many items are still to be read, before the next one
left_over : (count i : ℕ) → i < count → count - i ≡ suc (count - (i + 1))
left_over count i lt = omega arith

-- the next item was read
pub items_go_on : {X : Type 0} (item : List X →
    Reading X) (count i : ℕ) (taken : List X) (left after : Unread) (x : X)
    (total : Result (List X × Unread) CodecFault)
    → i < count → item taken left ≡ Ok (x, after) → take_items item (count - i) taken left ≡ total
    → take_items item (count - (i + 1)) (taken ++ x ∷ []) after ≡ total
unfolding take_items
items_go_on item count i taken left after x total lt one so_far =
    let step : take_items item (count - i) taken left ≡ take_items item (count - (i + 1)) (taken ++ x ∷ []) after =
    rw (left_over count i lt, one) refl in
    sym step ∙ so_far

-- the next item is at fault
pub items_stop : {X : Type 0} (item : List X →
    Reading X) (count i : ℕ) (taken : List X) (left : Unread) (fault : CodecFault)
    (total : Result (List X × Unread) CodecFault)
    → i < count → item taken left ≡ Err fault → take_items item (count - i) taken left ≡ total → total ≡ Err fault
unfolding take_items
items_stop item count i taken left fault total lt one so_far =
    let step : take_items item (count - i) taken left ≡ Err fault = rw (left_over count i lt, one) refl in
    sym so_far ∙ step

-- the next item is at fault, unless memory was refused
pub items_stop_unless : {X : Type 0} (item : List X →
    Reading X) (count i : ℕ) (taken : List X) (left : Unread) (fault : CodecFault)
    (total : Result (List X × Unread) CodecFault)
    → i < count → (fault ≢ NoMemory → item taken left ≡ Err fault) → take_items item (count - i) taken left ≡ total →
    fault ≢ NoMemory → total ≡ Err fault
items_stop_unless item count i taken left fault total lt one so_far known =
    items_stop item count i taken left fault total lt (one known) so_far

-- no item is left
pub items_end : {X : Type 0} (item : List X →
    Reading X) (count i : ℕ) (taken : List X) (left : Unread) (total : Result (List X × Unread) CodecFault)
    → count ≤ i → take_items item (count - i) taken left ≡ total → total ≡ Ok (taken, left)
unfolding take_items
items_end item count i taken left total le so_far =
    let none : count - i ≡ 0 = omega arith in
    let step : take_items item (count - i) taken left ≡ Ok (taken, left) = rw none refl in
    sym so_far ∙ step
