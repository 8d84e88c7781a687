-- The copy is of what a replica holds that is up.
use Rattle.std.proofs.Common.{◌≡◌, ℕ, Option, Some, None, option_map, refl, sym, ap}
use Rattle.cg_client.specs.Replica.{Held, Replica}
use Rattle.cg_transfer.specs.Calls.{copy_of}

abbrev pub held_of : Option Replica → Option Held
held_of up = option_map (λ (r : Replica). r.held) up

pub held-copied : (joiner giver : ℕ) (up : Option Replica) (h : Held) → held_of up ≡ Some h → Some (copy_of joiner giver h) ≡ option_map (λ (r : Replica). copy_of joiner giver r.held) up
held-copied joiner giver None h e = absurd (let clash : None ≡ Some h = e in cc)
held-copied joiner giver (Some r) h e =
    let there : Some r.held ≡ Some h = e in
    let is : r.held ≡ h = cc in
    ap (λ x. Some (copy_of joiner giver x)) (sym is)

pub none-copied : (joiner giver : ℕ) (up : Option Replica) → held_of up ≡ None → None ≡ option_map (λ (r : Replica). copy_of joiner giver r.held) up
none-copied joiner giver None e = refl
none-copied joiner giver (Some r) e = absurd (let clash : Some r.held ≡ None = e in cc)
