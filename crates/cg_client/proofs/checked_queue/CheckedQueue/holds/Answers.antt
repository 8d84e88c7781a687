use Rattle.cg_client.proofs.checked_queue.CheckedQueue.holds.Goals as goal

pub returns-clause-green_cut : goal.returns-clause-green_cut
returns-clause-green_cut c =
    rw (← c.self.view_is) (record { ascends = c.holds.ensures.shown.green.ascends; indexes = c.self.invariant.green_cut })

pub returns-clause-red_cut : goal.returns-clause-red_cut
returns-clause-red_cut c =
    rw (← c.self.view_is) (record { ascends = c.holds.ensures.shown.red.ascends; indexes = c.self.invariant.red_cut })
