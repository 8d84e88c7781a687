-- The parts of each attempt are of actions of their names, behind each small step: the book only grows, and of an attempt that is made
-- in the step they are what its first member holds.
use Rattle.std.proofs.Common.{◌≡◌, true, [], ◌++◌, Option, Some, None, IfSome, refl, sym, ap, ◌∙◌, subst}
use Rattle.std.proofs.lemmas.Option.{same_Some}
use Rattle.cg_client.specs.Replica.{Replica}
use Rattle.cg_client.specs.Install.{valid_yellow}
use Rattle.cg_client.specs.Queries.{plain_reds}
use Rattle.cg_model.specs.World.{replica_of}
use Rattle.cg_model.specs.Chronicle.{Attempt, Chronicle}
use Rattle.cg_model.specs.Looks.{attempt_of}
use Rattle.cg_model.specs.FactsReplica.{AreBooked, is_exchanging}
use Rattle.cg_model.specs.Facts.{Invariant}
use Rattle.cg_model.specs.Small.{Small, with_leaver, small_step}
use Rattle.cg_model.specs.Smalls.{may_make}
use Rattle.cg_agree.proofs.AttemptListKept.{more-booked}
use Rattle.cg_agree.proofs.AttemptSteps.{attempt-step}
use Rattle.cg_agree.proofs.AttemptsCame.{Came, Stayed, WasLeft, WasEntered, WasInstalled, WasMade, came}
use Rattle.cg_agree.proofs.BookedParts.{booked-both, new-booked}
use Rattle.cg_agree.proofs.ExchangeBehind.{up-now}
use Rattle.cg_agree_lemmas.specs.HandsNow.{hands-now, new, running-now}
use Rattle.cg_agree_lemmas.specs.AttemptsGrow.{grown-leaver}
use Rattle.cg_agree.proofs.ListEntered.{PartsBooked}
use Rattle.cg_agree_lemmas.specs.BookStays.{book-on}

-- ---- the parts

pub parts_booked-kept : (c : Chronicle) (s : Small) → Invariant c → may_make c s ≡ true → PartsBooked c → PartsBooked (small_step c s)
parts_booked-kept c s i may old conf = at (attempt_of (small_step c s) conf) refl where
  grown : (a : Attempt) → attempt_of c conf ≡ Some a → AreBooked (small_step c s) (a.yellow ++ a.reds)
  grown a found =
      let g = book-on c s in
      more-booked c (small_step c s) g.more g.all (a.yellow ++ a.reds) (subst (λ (o : Option Attempt). IfSome o (λ a. AreBooked c (a.yellow ++ a.reds))) found (old conf))

  of_came : (b : Attempt) → Came c (small_step c s) conf b → AreBooked (small_step c s) (b.yellow ++ b.reds)
  of_came b (Stayed found) = grown b found
  of_came b (WasLeft a found p n here is low) =
      let same = (grown-leaver p n a).same in
      subst (λ (x : Attempt). AreBooked (small_step c s) (x.yellow ++ x.reds)) (sym is)
      (subst (AreBooked (small_step c s)) (sym (ap (λ xs. xs ++ (with_leaver p n a).reds) same.yellow ∙ ap (λ xs. a.yellow ++ xs) same.reds)) (grown a found))
  of_came b (WasEntered a found p heard r new' begins is moved) = subst (λ (x : Attempt). AreBooked (small_step c s) (x.yellow ++ x.reds)) (sym is) (grown a found)
  of_came b (WasInstalled p r new' ins done here is levels core moved) =
      subst (λ (x : Attempt). AreBooked (small_step c s) (x.yellow ++ x.reds)) (sym is) (grown ins.a (ap (attempt_of c) here ∙ ins.found))
  of_came b (WasMade none p heard r new' begins greens is moved handed) =
      let n = hands-now c p i handed.may in
      let now : new' ≡ new c p i n = same_Some new' (new c p i n) (sym moved ∙ ap (λ (x : Chronicle). replica_of x.world p) handed.step ∙ up-now c p i handed.may n) in
      let exchanging : is_exchanging n.replica.state ≡ true = subst (λ (o : Option Replica). IfSome o (λ r. is_exchanging r.state ≡ true)) (running-now c p i n) handed.exchanging in
      let own = new-booked c p i handed.may n exchanging in
      let g = book-on c s in
      let parts : AreBooked (small_step c s) (valid_yellow new'.held ++ plain_reds new'.held.queue) =
      more-booked c (small_step c s) g.more g.all (valid_yellow new'.held ++ plain_reds new'.held.queue)
      (subst (λ (x : Replica). AreBooked c (valid_yellow x.held ++ plain_reds x.held.queue)) (sym now) (booked-both c (valid_yellow (new c p i n).held) (plain_reds (new c p i n).held.queue) own.0 own.1)) in
      subst (λ (x : Attempt). AreBooked (small_step c s) (x.yellow ++ x.reds)) (sym is) parts

  at : (o : Option Attempt) → attempt_of (small_step c s) conf ≡ o → IfSome o (λ a. AreBooked (small_step c s) (a.yellow ++ a.reds))
  at None e = tt
  at (Some b) e = of_came b (came c (small_step c s) conf b (attempt-step c s i may) e)
