-- A step of the loop over commands.
use Rattle.std.proofs.Common.{◌≡◌, ◌≢◌, ℕ, suc, ◌+◌, ◌-◌, ◌<◌, ◌≤◌, List, [], ◌∷◌, ◌++◌, Result, Ok, Err, refl, sym, ap, ◌∙◌, arith}
use Rattle.cg_action.specs.declared.command.Cmd.{Cmd}
use Rattle.cg_schedule.specs.declared.fault.LineFault.{LineFault}
use Rattle.cg_schedule.specs.declared.fault.LineFault.TheVariants.{NoMemory}
use Rattle.cg_schedule.specs.Reading.{Reading, go_on, TakesWithMemory}
use Rattle.cg_schedule.specs.Command.{Update, command_of, behind_commands, commands, one_too_many}

-- what a reading of commands gives
abbrev pub Given : Type 0
Given = Result (Update × List (List ℕ)) LineFault

-- where further commands may stand, one is read
commands-more : (n k : ℕ) (taken : List Cmd) (word : List ℕ) (left : List (List ℕ)) → k < n
    → commands (n - k) taken word left ≡ go_on (command_of word left) (λ cmd. behind_commands (commands (n - (k + 1)) (taken ++ cmd ∷ [])) (taken ++ cmd ∷ []))
unfolding commands
commands-more n k taken word left lt = let e : n - k ≡ suc (n - (k + 1)) = omega arith in rw e refl

-- where none may stand, there is one too many
pub commands-none : (n k : ℕ) (taken : List Cmd) (word : List ℕ) (left : List (List ℕ)) (total : Given) → n ≤ k → commands (n - k) taken word left ≡ total → total ≡ Err (one_too_many word)
unfolding commands
commands-none n k taken word left total le so_far = let e : n - k ≡ 0 = omega arith in sym (rw e at so_far)

-- a command that wasn't read ends the reading
pub commands-stop : (n k : ℕ) (taken : List Cmd) (word : List ℕ) (left : List (List ℕ)) (total : Given) (fault : LineFault) → k < n
    → (fault ≢ NoMemory → command_of word left ≡ Err fault) → commands (n - k) taken word left ≡ total → fault ≢ NoMemory → total ≡ Err fault
commands-stop n k taken word left total fault lt stopped so_far sure =
    sym so_far ∙ commands-more n k taken word left lt ∙ ap (λ r. go_on r (λ cmd. behind_commands (commands (n - (k + 1)) (taken ++ cmd ∷ [])) (taken ++ cmd ∷ []))) (stopped sure)

-- behind one that was read the reading goes on
pub commands-read : (n k : ℕ) (taken now : List Cmd) (word : List ℕ) (cmd : Cmd) (left behind : List (List ℕ)) (total : Given) → k < n
    → command_of word left ≡ Ok (cmd, behind) → now ≡ taken ++ cmd ∷ [] → commands (n - k) taken word left ≡ total
    → behind_commands (commands (n - (k + 1)) now) now behind ≡ total
commands-read n k taken now word cmd left behind total lt read grown so_far =
    rw grown (sym (ap (λ r. go_on r (λ cmd. behind_commands (commands (n - (k + 1)) (taken ++ cmd ∷ [])) (taken ++ cmd ∷ []))) read) ∙ sym (commands-more n k taken word left lt) ∙ so_far)

-- what one reading gives, the other gives where the two agree
pub TakesWithMemory-same : {X : Type 0} (one other : Reading X) (old there new : List (List ℕ)) (r : Result X LineFault) → one old ≡ other there
    → TakesWithMemory (λ (x : X). x) one old new r → TakesWithMemory (λ (x : X). x) other there new r
TakesWithMemory-same one other old there new (Ok x) same takes = sym same ∙ takes
TakesWithMemory-same one other old there new (Err fault) same takes = λ sure. sym same ∙ takes sure
