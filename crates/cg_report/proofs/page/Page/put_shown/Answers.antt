use Rattle.cg_report.proofs.Pages.{shown_behind}
use Rattle.cg_report.proofs.page.Page.put_shown.Goals as goal

pub invariant_of-self : goal.invariant_of-self
invariant_of-self g c =
    shown_behind c.put_shown.result _ _ _ _ c.requires c.put_shown.ensures.ok c.put_shown.ensures.err c.self.invariant
