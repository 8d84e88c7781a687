-- Nothing is armed on the disk of a replica that is down, nor on the disk from which it comes up.
use Rattle.std.proofs.Common.{◌≡◌, Some, None, sym, ◌∙◌, ap}
use Rattle.std.specs.Option.{option_map}
use Rattle.cg_disk.specs.State.{DiskState}
use Rattle.cg_disk.specs.View.{DiskView}
use Rattle.cg_journal.specs.Strikes.{strike_of, IsUnstruck}

-- where nothing was armed nothing is
pub stays_unarmed : (old new : DiskView) (s z : DiskState) → IsUnstruck old new → old.state ≡ Some s → s.strike ≡ None →
    new.state ≡ Some z → z.strike ≡ None
stays_unarmed old new s z unstruck before none behind =
    let there : strike_of new ≡ Some z.strike = ap (option_map (λ (x : DiskState). x.strike)) behind in
    let here : strike_of old ≡ Some s.strike = ap (option_map (λ (x : DiskState). x.strike)) before in
    let both : Some z.strike ≡ Some s.strike = sym there ∙ unstruck.stays ∙ here in
    let same : z.strike ≡ s.strike = cc in
    same ∙ none
