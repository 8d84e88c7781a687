use Rattle.cg_items.specs.Items.{steps_of}
use Rattle.cg_outcome.specs.Outcome.{companion_for, outcome}
use Rattle.cg_outcome.specs.Commands.{command_of}
use Rattle.cg_outcome.specs.Produced.{refused_in}
use Rattle.cg_run.proofs.agreement.items_agree.Goals as goal

pub returns-clause-sessions : goal.returns-clause-sessions
returns-clause-sessions c = λ taken how.
    let p = outcome c.args.words.now taken how in
    c.sessions_agree.ensures (companion_for (command_of c.args.words.now)) p.items (refused_in p) (c.outcomes_agree.ensures.of_run taken how)

pub returns-clause-followers : goal.returns-clause-followers
returns-clause-followers c = λ taken how.
    let p = outcome c.args.words.now taken how in
    c.followers_agree.ensures (companion_for (command_of c.args.words.now)) p.items (refused_in p) (c.outcomes_agree.ensures.of_run taken how)

pub returns-clause-relaxed : goal.returns-clause-relaxed
returns-clause-relaxed c = λ taken how.
    let p = outcome c.args.words.now taken how in
    c.relaxed_agree.ensures (companion_for (command_of c.args.words.now)) p.items (refused_in p) (c.outcomes_agree.ensures.of_run taken how)

pub returns-clause-logs_agree : goal.returns-clause-logs_agree
returns-clause-logs_agree c = λ taken how.
    c.shown_logs_agree.ensures (steps_of (outcome c.args.words.now taken how).items) (c.outcomes_agree.ensures.is_run taken how)
