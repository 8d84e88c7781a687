-- The line of a replica.
use Rattle.std.proofs.Common.{◌≡◌, ℕ, zero, suc, Bool, true, false, List, [], ◌∷◌, ◌++◌, codes, decimal, Option, Some, None, refl, sym, ap, ◌∙◌, true≢false, if◌then◌else◌}
use Rattle.std.specs.Prelude.{◌==◌}
use Rattle.std.proofs.lemmas.Bool.{eqb-true}
use Rattle.cg_text.specs.Numbers.{is_digit}
use Rattle.cg_base.specs.declared.action_id.ActionId.{ActionId}
use Rattle.cg_base.specs.Text.{set_text}
use Rattle.cg_base.specs.Lists.{Each}
use Rattle.cg_records.specs.declared.primary.Primary.{Primary}
use Rattle.cg_records.specs.declared.vulnerable.Vulnerable.{Vulnerable}
use Rattle.cg_records.specs.declared.yellow.Yellow.{Yellow}
use Rattle.cg_report.specs.declared.line.StateName.{StateName}
use Rattle.cg_report.specs.declared.line.StateName.TheVariants.{RegPrim, TransPrim, ExchangeStates, ExchangeActions, Construct, No, Un, NonPrim, Left}
use Rattle.cg_report.specs.declared.line.ShownPhase.{ShownPhase}
use Rattle.cg_report.specs.declared.line.ShownPhase.TheVariants.{Alone, Regular, Transitional}
use Rattle.cg_report.specs.declared.line.View.{View}
use Rattle.cg_report.specs.declared.line.UpLine.{UpLine}
use Rattle.cg_report.specs.declared.line.Line.{Line}
use Rattle.cg_report.specs.LineText.{state_text, phase_text, prim_text, vulnerable_text, yellow_in, yellow_text, counts_text, components_text, actions_text, view_text, up_text, line_text}
use Rattle.cg_short.specs.Short.{IsShortId, IfAny, IsShortPhase, IsShortPrimary, IsShortVulnerable, IsShortView, IsShortUp, IsShortLine}
use Rattle.cg_laws.proofs.Separating.{Separates, anything, begins, any, one, same_first, other_first, after, before, joined, on, within, same}
use Rattle.cg_laws.proofs.Parts.{by_reading}
use Rattle.std.proofs.lemmas.List.{append_cancel_left}
use Rattle.cg_laws.proofs.Numbers.{no_digit, number, begins-digit}
use Rattle.cg_laws.proofs.Names.{set, weight_set, name_list}

-- ---- the state

-- the byte behind so many
abbrev letter : ℕ → List ℕ → ℕ
letter n [] = 0
letter zero (byte ∷ bytes) = byte
letter (suc n) (byte ∷ bytes) = letter n bytes

-- the name that bytes before a blank are: its first letter tells it, and one more where two names have that
abbrev state_read : List ℕ → StateName
state_read bytes = if letter 0 bytes == 82 then RegPrim else if letter 0 bytes == 84 then TransPrim
    else if letter 0 bytes == 69 then (if letter 8 bytes == 83 then ExchangeStates else ExchangeActions)
    else if letter 0 bytes == 67 then Construct
    else if letter 0 bytes == 78 then (if letter 2 bytes == 110 then NonPrim else No)
    else if letter 0 bytes == 85 then Un else Left

state-again : (x : StateName) (u : List ℕ) → begins 32 u ≡ true → state_read (state_text x ++ u) ≡ x
state-again RegPrim u blank = refl
state-again TransPrim u blank = refl
state-again ExchangeStates u blank = refl
state-again ExchangeActions u blank = refl
state-again Construct u blank = refl
state-again No [] blank = absurd (true≢false (sym blank))
state-again No (byte ∷ u) blank = rw (eqb-true byte 32 blank) refl
state-again Un u blank = refl
state-again NonPrim u blank = refl
state-again Left u blank = refl

pub state : Separates (begins 32) any state_text one
state = by_reading state_read (λ x u h blank. state-again x u blank)

-- ---- where it stands in the group

phase-apart : (x y : ShownPhase) (u v : List ℕ) → IsShortPhase x → IsShortPhase y → no_digit u ≡ true → no_digit v ≡ true → phase_text x ++ u ≡ phase_text y ++ v → (x ≡ y) × (u ≡ v)
phase-apart Alone Alone u v hx hy eu ev e = (refl, (same_first {A = ℕ} e).1)
phase-apart (Regular m) (Regular n) u v hx hy eu ev e = let g = number.apart m n u v hx hy eu ev (same_first {A = ℕ} e).1 in ((λ i. Regular (g.0 i)), g.1)
phase-apart (Transitional m) (Transitional n) u v hx hy eu ev e = let g = number.apart m n u v hx hy eu ev (same_first {A = ℕ} e).1 in ((λ i. Transitional (g.0 i)), g.1)
phase-apart _ _ u v hx hy eu ev e = other_first refl e

pub phase : Separates no_digit IsShortPhase phase_text one
phase = record { apart = phase-apart }

-- ---- primary components and attempts

pub prim : Separates anything IsShortPrimary prim_text one
prim =
    within (λ p h. ((h.index, h.conf), h.set))
    (same (λ p q e i. record { index = e.0.0 i; conf = e.0.1 i; set = e.1 i })
    (joined {E = no_digit} (λ p u h e. refl)
    (joined {E = anything} (λ p u h e. refl) (before (codes "@") (λ u h. refl) (after (codes "p") (on (λ (p : Primary). p.index) number))) (on (λ (p : Primary). p.conf) number))
    (on (λ (p : Primary). p.set) weight_set)))

record_of : Separates anything IsShortVulnerable (λ v. codes "v" ++ decimal v.attempt ++ codes "/" ++ decimal v.from ++ set_text v.set ++ set_text v.bits) one
record_of =
    within (λ v h. (((h.attempt, h.from), h.set), h.bits))
    (same (λ p q e i. record { attempt = e.0.0.0 i; from = e.0.0.1 i; set = e.0.1 i; bits = e.1 i })
    (joined {E = anything} (λ p u h e. refl)
    (joined {E = no_digit} (λ p u h e. refl)
    (joined {E = anything} (λ p u h e. refl) (before (codes "/") (λ u h. refl) (after (codes "v") (on (λ (v : Vulnerable). v.attempt) number))) (on (λ (v : Vulnerable). v.from) number))
    (on (λ (v : Vulnerable). v.set) set))
    (on (λ (v : Vulnerable). v.bits) set)))

-- behind the letter of a record stands a digit
no-record : {A : Type 0} (x : Vulnerable) (u v : List ℕ) → IsShortVulnerable x → vulnerable_text (Some x) ++ u ≡ codes "v-" ++ v → A
no-record x u v h e =
    let first = begins-digit x.attempt h.attempt in
    let is : first.0 ≡ 45 = (same_first {A = ℕ} (ap (λ ds. ds ++ codes "/" ++ decimal x.from ++ set_text x.set ++ set_text x.bits ++ u) (sym first.2) ∙ (same_first {A = ℕ} e).1)).0 in
    absurd (true≢false (sym first.3 ∙ ap is_digit is))

vulnerable-apart : (x y : Option Vulnerable) (u v : List ℕ) → IfAny IsShortVulnerable x → IfAny IsShortVulnerable y → vulnerable_text x ++ u ≡ vulnerable_text y ++ v → (x ≡ y) × (u ≡ v)
vulnerable-apart None None u v hx hy e = (refl, append_cancel_left (codes "v-") u v e)
vulnerable-apart None (Some y) u v hx hy e = no-record y v u hy (sym e)
vulnerable-apart (Some x) None u v hx hy e = no-record x u v hx e
vulnerable-apart (Some x) (Some y) u v hx hy e = let g = record_of.apart x y u v hx hy refl refl e in ((λ i. Some (g.0 i)), g.1)

pub vulnerable : Separates anything (IfAny IsShortVulnerable) vulnerable_text one
vulnerable = record { apart = λ x y u v hx hy eu ev e. vulnerable-apart x y u v hx hy e }

-- ---- yellow lists

yellow-apart : (p q : Bool) (x y : List ActionId) (u v : List ℕ) → Each IsShortId x → Each IsShortId y → yellow_in p x ++ u ≡ yellow_in q y ++ v → ((p ≡ q) × (x ≡ y)) × (u ≡ v)
yellow-apart true true x y u v hx hy e = let g = (after (codes "y!") name_list).apart x y u v hx hy refl refl e in ((refl, g.0), g.1)
yellow-apart true false x [] u v hx hy e = other_first refl (same_first {A = ℕ} e).1
yellow-apart true false x (b ∷ y) u v hx hy e = other_first refl (same_first {A = ℕ} e).1
yellow-apart false true [] y u v hx hy e = other_first refl (same_first {A = ℕ} e).1
yellow-apart false true (a ∷ x) y u v hx hy e = other_first refl (same_first {A = ℕ} e).1
yellow-apart false false [] [] u v hx hy e = ((refl, refl), append_cancel_left (codes "y-") u v e)
yellow-apart false false [] (b ∷ y) u v hx hy e = other_first refl (same_first {A = ℕ} e).1
yellow-apart false false (a ∷ x) [] u v hx hy e = other_first refl (same_first {A = ℕ} e).1
yellow-apart false false (a ∷ x) (b ∷ y) u v hx hy e = let g = (after (codes "y?") name_list).apart (a ∷ x) (b ∷ y) u v hx hy refl refl e in ((refl, g.0), g.1)

pub yellow : Separates anything (λ (y : Yellow). Each IsShortId y.list) yellow_text one
yellow = record {
  apart = λ x y u v hx hy eu ev e. let g = yellow-apart x.valid y.valid x.list y.list u v hx hy e in ((λ i. record { valid = g.0.0 i; list = g.0.1 i }), g.1);
}

-- ---- what a replica holds

counts : Separates no_digit IsShortView counts_text (λ x y. (x.green_count ≡ y.green_count) × (x.white_count ≡ y.white_count))
counts =
    within (λ v h. (h.green_count, h.white_count))
    (joined {E = anything} (λ v u h e. refl) (before (codes " w") (λ u h. refl) (after (codes "g") (on (λ (v : View). v.green_count) number))) (on (λ (v : View). v.white_count) number))

components : Separates anything IsShortView components_text (λ x y. ((x.prim ≡ y.prim) × (x.attempt_index ≡ y.attempt_index)) × (x.vulnerable ≡ y.vulnerable))
components =
    within (λ v h. ((h.prim, h.attempt_index), h.vulnerable))
    (joined {E = anything} (λ v u h e. refl)
    (before (codes " ") (λ u h. refl)
    (joined {E = anything} (λ v u h e. refl) (before (codes " a") (λ u h. refl) (after (codes " ") (on (λ (v : View). v.prim) prim))) (on (λ (v : View). v.attempt_index) number)))
    (on (λ (v : View). v.vulnerable) vulnerable))

actions : Separates anything IsShortView actions_text (λ x y. ((x.yellow ≡ y.yellow) × (x.reds ≡ y.reds)) × (x.own ≡ y.own))
actions =
    within (λ v h. ((h.yellow, h.reds), h.own))
    (joined {E = anything} (λ v u h e. refl)
    (before (codes " o") (λ u h. refl)
    (joined {E = anything} (λ v u h e. refl) (before (codes " r") (λ u h. refl) (after (codes " ") (on (λ (v : View). v.yellow) yellow))) (on (λ (v : View). v.reds) name_list)))
    (on (λ (v : View). v.own) name_list))

-- all of it
pub view : Separates no_digit IsShortView view_text one
view =
    within (λ v h. ((((h, h), h), h.left), h.buffered))
    (same (λ x y e i. record {
      green_count = e.0.0.0.0.0 i;
      white_count = e.0.0.0.0.1 i;
      prim = e.0.0.0.1.0.0 i;
      attempt_index = e.0.0.0.1.0.1 i;
      vulnerable = e.0.0.0.1.1 i;
      yellow = e.0.0.1.0.0 i;
      reds = e.0.0.1.0.1 i;
      own = e.0.0.1.1 i;
      left = e.0.1 i;
      buffered = e.1 i;
    })
    (joined {E = anything} (λ v u h e. refl)
    (before (codes " b") (λ u h. refl)
    (joined {E = anything} (λ v u h e. refl)
    (before (codes " x") (λ u h. refl) (joined {E = anything} (λ v u h e. refl) (joined {E = no_digit} (λ v u h e. refl) counts components) actions))
    (on (λ (v : View). v.left) set)))
    (on (λ (v : View). v.buffered) number)))

-- ---- the line

-- what a line says of a replica that is up
abbrev there_text : UpLine → List ℕ
there_text up = state_text up.state ++ codes " " ++ phase_text up.phase ++ codes " " ++ view_text up.view

there : Separates no_digit IsShortUp there_text one
there =
    within (λ up h. ((tt, h.0), h.1))
    (same (λ x y e i. record { state = e.0.0 i; phase = e.0.1 i; view = e.1 i })
    (joined {E = anything} (λ up u h e. refl)
    (before (codes " ") (λ u h. refl) (joined {E = anything} (λ up u h e. refl) (before (codes " ") (λ u h. refl) (on (λ (up : UpLine). up.state) state)) (on (λ (up : UpLine). up.phase) phase)))
    (on (λ (up : UpLine). up.view) view)))

-- no state's name begins as that of a replica that is down
no-down : {A : Type 0} (s : StateName) (a b u v : List ℕ) → state_text s ++ codes " " ++ a ++ codes " " ++ b ++ u ≡ codes "Down" ++ v → A
no-down RegPrim a b u v e = other_first refl e
no-down _ a b u v e = other_first refl e

up-apart : (x y : Option UpLine) (u v : List ℕ) → IfAny IsShortUp x → IfAny IsShortUp y → no_digit u ≡ true → no_digit v ≡ true → up_text x ++ u ≡ up_text y ++ v → (x ≡ y) × (u ≡ v)
up-apart None None u v hx hy eu ev e = (refl, append_cancel_left (codes "Down") u v e)
up-apart None (Some y) u v hx hy eu ev e = no-down y.state _ _ v u (sym e)
up-apart (Some x) None u v hx hy eu ev e = no-down x.state _ _ u v e
up-apart (Some x) (Some y) u v hx hy eu ev e = let g = there.apart x y u v hx hy eu ev e in ((λ i. Some (g.0 i)), g.1)

up : Separates no_digit (IfAny IsShortUp) up_text one
up = record { apart = up-apart }

pub line : Separates no_digit IsShortLine line_text one
line =
    same (λ x y e i. record { id = e.0 i; up = e.1 i })
    (joined {E = anything} (λ l u h e. refl) (before (codes " ") (λ u h. refl) (on (λ (l : Line). l.id) number)) (on (λ (l : Line). l.up) up))
