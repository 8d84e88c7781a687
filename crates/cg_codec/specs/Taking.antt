-- What a call that reads does to its reader.
use Rattle.std.specs.Prelude.{◌≡◌, ◌≢◌, [], Result, Ok, Err}
use Rattle.cg_codec.specs.declared.fault.CodecFault.{CodecFault}
use Rattle.cg_codec.specs.declared.fault.CodecFault.TheVariants.{Rest, NoMemory}
use Rattle.cg_codec.specs.declared.fields.Fields.{Fields}
use Rattle.cg_codec.specs.Reading.{Unread, Reading}

-- what a reader has still to read
abbrev pub unread_of : Fields → Unread
unread_of fields = record { at = fields.at; bytes = fields.rest.now }

-- the call gave what reading gives, seen by a view, and the reader stands behind it; after a fault, which is one of the bytes, the reader is as before
abbrev pub Takes : {X Y : Type 0} → (X → Y) → Reading Y → Unread → Unread → Result X CodecFault → Type 0
Takes view reading old new (Ok x) = reading old ≡ Ok (view x, new)
Takes view reading old new (Err fault) = (reading old ≡ Err fault) × (new ≡ old) × (fault ≢ NoMemory)

-- the same of a call that takes memory: want of it says nothing of the bytes
abbrev pub TakesWithMemory : {X Y : Type 0} → (X → Y) → Reading Y → Unread → Unread → Result X CodecFault → Type 0
TakesWithMemory view reading old new (Ok x) = reading old ≡ Ok (view x, new)
TakesWithMemory view reading old new (Err fault) = (fault ≢ NoMemory → reading old ≡ Err fault) × (new ≡ old)

-- nothing is left, or the first byte left is at fault
abbrev pub Ends : {X : Type 0} → Unread → Result X CodecFault → Type 0
Ends left (Ok _) = left.bytes ≡ []
Ends left (Err fault) = (fault ≡ Rest left.at) × (left.bytes ≢ [])

-- the call gave what reading all of the bytes gives, seen by a view, unless memory was refused
abbrev pub Decodes : {X Y : Type 0} → (X → Y) → Result Y CodecFault → Result X CodecFault → Type 0
Decodes view read (Ok x) = read ≡ Ok (view x)
Decodes view read (Err fault) = fault ≢ NoMemory → read ≡ Err fault
