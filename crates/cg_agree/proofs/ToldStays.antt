-- What was told stays in each small step.
use Rattle.std.proofs.Common.{◌≡◌, ℕ, true, false, ◌&&◌, Option, Some, sym, ap, ap₂, ◌∙◌, ⊎_elim, eqb-true}
use Rattle.std.specs.Prelude.{◌==◌, is_none}
use Rattle.std.proofs.lemmas.Bool.{cases_Bool, cond-false, and_parts}
use Rattle.cg_model.specs.Chronicle.{Told, Chronicle}
use Rattle.cg_model.specs.Facts.{Invariant}
use Rattle.cg_model.specs.Looks.{told_in}
use Rattle.cg_model.specs.Small.{Small, Starts, Makes, Enters, Orders, Receives, Hands, Leaves, Asks, Settles, Commits, Crashes, Recovers, Copies, Joins, newest_conf, small_step}
use Rattle.cg_model.specs.Smalls.{may_make}
use Rattle.cg_agree_lemmas.specs.ExchangeStill.{ToldStays}
use Rattle.cg_agree.proofs.PastKept.{EntersNow, enters-now, entry_told, told_in-enters}
use Rattle.cg_agree_lemmas.specs.ToldKept.{IsUntold, told-same, told_in-same}

-- one that enters has told nothing there before
pub told-entered : (c : Chronicle) (p : ℕ) → EntersNow c p → ToldStays c (small_step c (Enters p))
told-entered c p n conf q t e = told_in-enters c p n conf q ∙ ⊎_elim
    (λ is.
    let both = and_parts (conf == newest_conf c.world.group) (q == p) is in
    let there : told_in c (newest_conf c.world.group) p ≡ Some t = ap₂ (told_in c) (sym (eqb-true conf (newest_conf c.world.group) both.0)) (sym (eqb-true q p both.1)) ∙ e in
    absurd (let clash : false ≡ true = sym (ap (λ (o : Option Told). is_none o) there) ∙ n.may.untold in cc))
    (λ isnt. cond-false ((conf == newest_conf c.world.group) && (q == p)) (Some (entry_told c p n.replica)) (told_in c conf q) isnt ∙ e)
    (cases_Bool ((conf == newest_conf c.world.group) && (q == p)))

untold : (c : Chronicle) (s : Small) → IsUntold s → ToldStays c (small_step c s)
untold c s is conf q t e = told_in-same c (small_step c s) (told-same c s is) conf q ∙ e

pub told-stays : (c : Chronicle) (s : Small) → Invariant c → may_make c s ≡ true → ToldStays c (small_step c s)
told-stays c (Enters p) i may = told-entered c p (enters-now c p i.net.phase_sound (i.replica.mode_data p) may)
told-stays c (Starts set) i may = untold c (Starts set) tt
told-stays c (Makes set) i may = untold c (Makes set) tt
told-stays c (Orders p) i may = untold c (Orders p) tt
told-stays c (Receives p place) i may = untold c (Receives p place) tt
told-stays c (Hands p) i may = untold c (Hands p) tt
told-stays c (Leaves p set own places) i may = untold c (Leaves p set own places) tt
told-stays c (Asks p kind) i may = untold c (Asks p kind) tt
told-stays c (Settles p) i may = untold c (Settles p) tt
told-stays c (Commits p) i may = untold c (Commits p) tt
told-stays c (Crashes p) i may = untold c (Crashes p) tt
told-stays c (Recovers p) i may = untold c (Recovers p) tt
told-stays c (Copies p joiner) i may = untold c (Copies p joiner) tt
told-stays c (Joins joiner) i may = untold c (Joins joiner) tt
