-- Why bytes are not the spelling of a value.
use Rattle.std.specs.Prelude.{◌≡◌, ◌≢◌, ℕ, List, Bool, Option, Some, None, Result, Ok, Err, if◌then◌else◌}
use Rattle.cg_text.specs.declared.fault.TextFault.{TextFault}
use Rattle.cg_text.specs.declared.fault.TextFault.TheVariants.{NotANumber, TooLarge, BadQuote, TooLong, NoMemory}

-- the number of each fault of the bytes; want of memory is none
abbrev pub text_fault_number : TextFault → Option ℕ
text_fault_number NotANumber = Some 1
text_fault_number TooLarge = Some 2
text_fault_number BadQuote = Some 3
text_fault_number TooLong = Some 4
text_fault_number NoMemory = None

-- by spelling first and then by size: where nothing is spelled it is one fault, and where what is spelled isn't small enough it is the other
abbrev pub fitting : {X : Type 0} → TextFault → TextFault → (X → Bool) → Option X → Result X TextFault
fitting spelling size is_small None = Err spelling
fitting spelling size is_small (Some x) = if is_small x then Ok x else Err size

-- the call gave what reading gives, seen by a view, unless memory was refused
abbrev pub Reads : {X Y : Type 0} → (X → Y) → Result Y TextFault → Result X TextFault → Type 0
Reads view read (Ok x) = read ≡ Ok (view x)
Reads view read (Err fault) = fault ≢ NoMemory → read ≡ Err fault

-- A spelling and a reading belong together: what is spelled is read, and what is read is spelled so.
pub record IsSpelling {X : Type 0} (Has : X → Type 0) (spelling : X → List ℕ) (read : List ℕ →
    Result X TextFault) : Type 0 where
  pub again : (x : X) → Has x → read (spelling x) ≡ Ok x
  pub found : (bytes : List ℕ) (x : X) → read bytes ≡ Ok x → Has x × (bytes ≡ spelling x)
