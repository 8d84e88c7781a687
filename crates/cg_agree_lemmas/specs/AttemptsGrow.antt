-- Attempts only grow: through each small step each one keeps its parts, and those that entered, installed and left it.
use Rattle.std.proofs.Common.{◌≡◌, ℕ, Bool, true, false, cond, ◌||◌, List, [], ◌∷◌, ◌++◌, Option, Some, None, option_map, length, find, refl, ap, ◌∙◌, eqb, if◌then◌else◌}
use Rattle.std.specs.Prelude.{◌==◌}
use Rattle.std.specs.Option.{option_map_or}
use Rattle.std.proofs.lemmas.Bool.{cond_both}
use Rattle.cg_base.specs.Sets.{has, with_member}
use Rattle.cg_base.specs.SetLaws.{has-with_member}
use Rattle.cg_base.specs.FindLaws.{found_before}
use Rattle.cg_action.specs.declared.action.Action.{Action}
use Rattle.cg_records.specs.declared.vulnerable.Vulnerable.{Vulnerable}
use Rattle.cg_client.specs.Replica.{Held, Replica}
use Rattle.cg_client.specs.Turn.{Turn, begin}
use Rattle.cg_client.specs.Requests.{settle}
use Rattle.cg_group.specs.State.{phase_of}
use Rattle.cg_model.specs.World.{NodeState, Up, Down, node_of, replica_of}
use Rattle.cg_model.specs.Attempts.{new_attempt, is_seen, with_attempt_of}
use Rattle.cg_model.specs.Chronicle.{Leaving, Attempt, Chronicle}
use Rattle.cg_model.specs.Looks.{snapshot_of, greens_of, stood_of, conf_at}
use Rattle.cg_model.specs.Small.{Small, Starts, Makes, Enters, Orders, Receives, Hands, Leaves, Asks, Settles, Commits, Crashes, Recovers, Copies, Joins, small_step, changed_attempt, with_entrant, with_installer, with_leaver, entering, installing, attempts_behind, is_entry, is_installation, newly_green, turning_as, turning, commit_as, crash_as, recover_as, copy_as, join_with, coming, take_newest, handed_next, take_next, leaving, take_parting, take_request}
use Rattle.cg_agree_lemmas.specs.Keyed.{found-changed}
use Rattle.cg_agree_lemmas.specs.SameAttempt.{SameAttempt, same-refl, same-then}

-- one attempt, and what it has become
pub record Grown (a b : Attempt) : Type 0 where
  pub same : SameAttempt a b
  pub entered : (q : ℕ) → has a.entered q ≡ true → has b.entered q ≡ true
  pub installed : (q : ℕ) → has a.installed q ≡ true → has b.installed q ≡ true
  pub left : (q : ℕ) (l : Leaving) → find (λ l. l.member == q) a.left ≡ Some l → find (λ l. l.member == q) b.left ≡ Some l

pub grown-refl : (a : Attempt) → Grown a a
grown-refl a = record { same = same-refl a; entered = λ q e. e; installed = λ q e. e; left = λ q l e. e }

pub grown-then : (a b e : Attempt) → Grown a b → Grown b e → Grown a e
grown-then a b e one two = record {
  same = same-then a b e one.same two.same;
  entered = λ q is. two.entered q (one.entered q is);
  installed = λ q is. two.installed q (one.installed q is);
  left = λ q l is. two.left q l (one.left q l is);
}

abbrev at_conf : List Attempt → ℕ → Option Attempt
at_conf attempts conf = find (λ a. a.conf == conf) attempts

-- the attempt of a configuration, as it is now
pub record IsGrown (attempts : List Attempt) (conf : ℕ) (a : Attempt) : Type 0 where
  pub now : Attempt
  pub found : at_conf attempts conf ≡ Some now
  pub grown : Grown a now

pub record Grow (olds news : List Attempt) : Type 0 where
  pub still : (conf : ℕ) (a : Attempt) → at_conf olds conf ≡ Some a → IsGrown news conf a

pub grow-refl : (attempts : List Attempt) → Grow attempts attempts
grow-refl attempts = record { still = λ conf a e. record { now = a; found = e; grown = grown-refl a } }

pub grow-then : (xs ys zs : List Attempt) → Grow xs ys → Grow ys zs → Grow xs zs
grow-then xs ys zs one two = record {
  still = λ conf a e. (let mid = one.still conf a e in let last = two.still conf mid.now mid.found in
      record { now = last.now; found = last.found; grown = grown-then a mid.now last.now mid.grown last.grown });
}

pub grow-changed : (f : Attempt → Attempt) → ((a : Attempt) → Grown a (f a)) → (conf : ℕ) (attempts : List Attempt) → Grow attempts (changed_attempt f conf attempts)
grow-changed f grows conf attempts = record {
  still = λ k a e. (let behind = found-changed (λ (a : Attempt). a.conf) f (λ a. (grows a).same.conf) conf attempts k in
      choice k a (k == conf) (behind ∙ ap (λ o. cond (k == conf) (option_map f o) o) e));
} where
  choice : (k : ℕ) (a : Attempt) (b : Bool) → at_conf (changed_attempt f conf attempts) k ≡ cond b (option_map f (Some a)) (Some a) → IsGrown (changed_attempt f conf attempts) k a
  choice k a true e = record { now = f a; found = e; grown = grows a }
  choice k a false e = record { now = a; found = e; grown = grown-refl a }

pub grow-appended : (attempts more : List Attempt) → Grow attempts (attempts ++ more)
grow-appended attempts more = record { still = λ conf a e. record { now = a; found = found_before (λ (a : Attempt). a.conf == conf) attempts more a e; grown = grown-refl a } }

-- ---- what a replica does to an attempt

-- who was a member still is one
pub still-has : (set : List ℕ) (p q : ℕ) → has set q ≡ true → has (with_member set p) q ≡ true
still-has set p q is = has-with_member set p q ∙ ap (λ b. b || eqb p q) is

pub grown-leaver : (p count : ℕ) (a : Attempt) → Grown a (with_leaver p count a)
grown-leaver p count a =
    cond_both (has a.entered p) (record a { left = a.left ++ record { member = p; count = count } ∷ [] }) a (Grown a)
    (λ y. record {
      same = record { conf = refl; from = refl; set = refl; greens = refl; yellow = refl; reds = refl };
      entered = λ q e. e;
      installed = λ q e. e;
      left = λ q l e. found_before (λ (l : Leaving). l.member == q) a.left (record { member = p; count = count } ∷ []) l e;
    }) (λ n. grown-refl a)

pub grown-entrant : (p : ℕ) (a : Attempt) → Grown a (with_entrant p a)
grown-entrant p a = record {
  same = record { conf = refl; from = refl; set = refl; greens = refl; yellow = refl; reds = refl };
  entered = λ q e. still-has a.entered p q e;
  installed = λ q e. e;
  left = λ q l e. e;
}

pub grown-installer : (p : ℕ) (a : Attempt) → Grown a (with_installer p a)
grown-installer p a = record {
  same = record { conf = refl; from = refl; set = refl; greens = refl; yellow = refl; reds = refl };
  entered = λ q e. e;
  installed = λ q e. still-has a.installed p q e;
  left = λ q l e. e;
}

pub grow-entering : (greens : List Action) (h : Held) (attempts : List Attempt) (v : Option Vulnerable) → Grow attempts (entering greens h attempts v)
grow-entering greens h attempts None = grow-refl attempts
grow-entering greens h attempts (Some v) =
    let more = with_attempt_of attempts greens h (Some v) in
    grow-then attempts more (changed_attempt (with_entrant h.id) v.attempt more)
    (cond_both (is_seen attempts v.attempt) attempts (attempts ++ new_attempt greens h v ∷ []) (Grow attempts) (λ y. grow-refl attempts) (λ n. grow-appended attempts (new_attempt greens h v ∷ [])))
    (grow-changed (with_entrant h.id) (grown-entrant h.id) v.attempt more)

pub grow-installing : (p : ℕ) (attempts : List Attempt) (v : Option Vulnerable) → Grow attempts (installing p attempts v)
grow-installing p attempts None = grow-refl attempts
grow-installing p attempts (Some v) = grow-changed (with_installer p) (grown-installer p) v.attempt attempts

pub grow-behind : (attempts : List Attempt) (p : ℕ) (greens : List Action) (old new : Replica) → Grow attempts (attempts_behind attempts p greens old new)
grow-behind attempts p greens old new =
    cond_both (is_entry old.state new.state) (entering greens new.held attempts new.held.vulnerable)
    (if is_installation old.state new.state then installing p attempts new.held.vulnerable else attempts) (Grow attempts)
    (λ y. grow-entering greens new.held attempts new.held.vulnerable)
    (λ n. cond_both (is_installation old.state new.state) (installing p attempts new.held.vulnerable) attempts (Grow attempts)
    (λ y. grow-installing p attempts new.held.vulnerable) (λ m. grow-refl attempts))

-- ---- small steps

grow-turning_as : (c : Chronicle) (p : ℕ) (part : Turn → Turn) (life : NodeState) → Grow c.attempts (turning_as c p part life).attempts
grow-turning_as c p part (Up r disk) =
    let t = part (begin r) in grow-behind c.attempts p (greens_of c p ++ newly_green r t.replica) r t.replica
grow-turning_as c p part (Down disk green) = grow-refl c.attempts

at-some : {X : Type 0} (o : Option X) (change : X → Chronicle) (c : Chronicle) → ((x : X) → Grow c.attempts (change x).attempts) →
    Grow c.attempts (option_map_or change o c).attempts
at-some None change c each = grow-refl c.attempts
at-some (Some x) change c each = each x

pub grow-turning : (c : Chronicle) (p : ℕ) (part : Turn → Turn) → Grow c.attempts (turning c p part).attempts
grow-turning c p part = at-some (node_of c.world p) (λ s. turning_as c p part s.life) c (λ s. grow-turning_as c p part s.life)

pub grow-left : (c : Chronicle) (p count : ℕ) → Grow c.attempts (changed_attempt (with_leaver p count) (conf_at (phase_of c.world.group p)) c.attempts)
grow-left c p count = grow-changed (with_leaver p count) (grown-leaver p count) (conf_at (phase_of c.world.group p)) c.attempts

grow-commit_as : (c : Chronicle) (p : ℕ) (life : NodeState) → Grow c.attempts (commit_as c p life).attempts
grow-commit_as c p (Up r disk) = grow-refl c.attempts
grow-commit_as c p (Down disk green) = grow-refl c.attempts

grow-crash_as : (c : Chronicle) (p : ℕ) (life : NodeState) → Grow c.attempts (crash_as c p life).attempts
grow-crash_as c p (Up r disk) = grow-left c p (length (stood_of c p))
grow-crash_as c p (Down disk green) = grow-refl c.attempts

grow-recover_as : (c : Chronicle) (life : NodeState) → Grow c.attempts (recover_as c life).attempts
grow-recover_as c (Up r disk) = grow-refl c.attempts
grow-recover_as c (Down disk green) = grow-refl c.attempts

-- the attempts grow in each small step
pub attempts-grow : (c : Chronicle) (s : Small) → Grow c.attempts (small_step c s).attempts
unfolding small_step
attempts-grow c (Starts set) = grow-refl c.attempts
attempts-grow c (Makes set) = grow-refl c.attempts
attempts-grow c (Enters p) =
    grow-then c.attempts (coming c p).attempts _ (grow-left c p (length (greens_of c p))) (grow-turning (coming c p) p (take_newest c.world.group))
attempts-grow c (Orders p) = grow-refl c.attempts
attempts-grow c (Receives p place) = grow-refl c.attempts
attempts-grow c (Hands p) = grow-turning (handed_next c p) p (take_next c.world.group p)
attempts-grow c (Leaves p set own places) = grow-turning (leaving c p set own) p (take_parting c.world.group p set places)
attempts-grow c (Asks p kind) = grow-turning c p (take_request kind)
attempts-grow c (Settles p) = grow-turning c p settle
attempts-grow c (Commits p) = at-some (node_of c.world p) (λ s. commit_as c p s.life) c (λ s. grow-commit_as c p s.life)
attempts-grow c (Crashes p) = at-some (node_of c.world p) (λ s. crash_as c p s.life) c (λ s. grow-crash_as c p s.life)
attempts-grow c (Recovers p) = at-some (node_of c.world p) (λ s. recover_as c s.life) c (λ s. grow-recover_as c s.life)
attempts-grow c (Copies p joiner) = at-some (replica_of c.world p) (copy_as c p joiner) c (λ r. grow-refl c.attempts)
attempts-grow c (Joins joiner) = at-some (snapshot_of c.world joiner) (λ s. join_with c joiner s.content) c (λ s. grow-refl c.attempts)
