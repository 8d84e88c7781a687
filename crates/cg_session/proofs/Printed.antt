-- What is printed of an event of a session is read again.
use Rattle.std.proofs.Common.{◌≡◌, ℕ, zero, suc, ◌+◌, ◌<◌, true, false, [], length, drop, get_or, ap, ◌∙◌, List, ◌∷◌, ◌++◌, refl, sym, subst, append_assoc, arith, codes}
use Rattle.std.specs.Prelude.{decimal}
use Rattle.std.specs.Char.{encode_utf8}
use Rattle.std.specs.Str.{IsUtf8, chars, is_utf8}
use Rattle.std.proofs.lemmas.List.{drop_at, length-append, get_or_at}
use Rattle.std.proofs.lemmas.Str.{IsUtf8-append, IsUtf8-drop, IsUtf8-from_is_utf8, is_utf8-from_IsUtf8, IsCharBoundary-after_ascii}
use Rattle.cg_base.specs.Sets.{IsId}
use Rattle.cg_text.specs.Tokens.{is_passed_over}
use Rattle.cg_action.specs.Print.{query_text, update_text}
use Rattle.cg_schedule.specs.declared.event.Event.{Event}
use Rattle.cg_schedule.specs.declared.event.Event.TheVariants as event
use Rattle.cg_schedule.specs.declared.reader_state.ReaderState.{ReaderState}
use Rattle.cg_schedule.specs.Limits.{IsEvent}
use Rattle.cg_schedule.specs.Laws.{MayStand}
use Rattle.cg_schedule.specs.Print.{line_of as schedule_line_of}
use Rattle.cg_session.specs.declared.event.SessionEvent.{SessionEvent}
use Rattle.cg_session.specs.declared.event.SessionEvent.TheVariants.{Begin, Write, Weak}
use Rattle.cg_session.specs.Laws.{IsSessionEvent, PrintedAreRead}
use Rattle.cg_session.specs.Print.{line_of}
use Rattle.cg_session.proofs.Exact.{lines_exact}
use Rattle.cg_session.proofs.Parts.{Known}
use Rattle.cg_base.specs.TextLaws.{blank_parts, ascii_then}

-- ---- where a text may be cut, and joined

behind_small : (front : List ℕ) (byte : ℕ) (bytes : List ℕ) → byte < 128 → IsUtf8 (front ++ byte ∷ bytes) →
    IsUtf8 bytes
behind_small front byte bytes small utf8 =
    let text = front ++ byte ∷ bytes in
    let long : length text ≡ length front + length (byte ∷ bytes) = length-append front (byte ∷ bytes) in
    let here : get_or text (length front) 0 ≡ byte = get_or_at front byte bytes 0 (length front) refl in
    let cut = IsCharBoundary-after_ascii text (length front) utf8 (omega arith) (omega arith) in
    let grouped : (front ++ byte ∷ []) ++ bytes ≡ text = append_assoc front (byte ∷ []) bytes in
    let rest : drop (length front + 1) text ≡ bytes =
    ap (drop (length front + 1)) (sym grouped)
    ∙ drop_at (front ++ byte ∷ []) bytes (length front + 1) (length-append front (byte ∷ [])) in
    subst IsUtf8 rest (IsUtf8-drop text (length front + 1) utf8 cut)

-- a word with a blank behind it, and more
with_word : (text rest : List ℕ) → is_utf8 (text ++ codes " ") ≡ true → IsUtf8 rest → IsUtf8 (text ++ 32 ∷ rest)
with_word text rest word utf8 =
    let both = IsUtf8-append (text ++ codes " ") rest (IsUtf8-from_is_utf8 _ word) utf8 in
    subst IsUtf8 (append_assoc text (codes " ") rest) both

-- a number, and a replica with one part more
with_number : (s p rest : List ℕ) → IsUtf8 s → IsUtf8 ((p ++ codes " ") ++ rest) →
    IsUtf8 ((((s ++ codes " ") ++ p) ++ codes " ") ++ rest)
with_number s p rest number utf8 =
    let behind = ascii_then 32 ((p ++ codes " ") ++ rest) (omega arith) utf8 in
    subst IsUtf8 (sym (blank_parts s p rest)) (IsUtf8-append s (32 ∷ ((p ++ codes " ") ++ rest)) number behind)

-- a schedule has begun
abbrev pub going : ReaderState
going = record { started = true; ended = false }

stands : (e : SessionEvent) → is_passed_over (line_of e) ≡ false
stands (Begin s) = refl
stands (Write s p cmds query) = refl
stands (Weak s p query) = refl

-- printed lines of a schedule are texts
abbrev pub AreTexts : Type 0
AreTexts = (e : Event) → IsEvent e → MayStand going e → is_utf8 (schedule_line_of e) ≡ true

module _ (known : Known) (texts : AreTexts) where
  -- what stands behind the word in a printed line of a schedule
  behind_word : (e : Event) (text rest : List ℕ) → IsEvent e → MayStand going e →
      schedule_line_of e ≡ text ++ 32 ∷ rest → IsUtf8 rest
  behind_word e text rest within may line_is =
      behind_small text 32 rest (omega arith) (subst IsUtf8 line_is (IsUtf8-from_is_utf8 _ (texts e within may)))

  number_utf8 : (s : ℕ) → IsId s → IsUtf8 (decimal s)
  number_utf8 s has = behind_word (event.Order s) (codes "order") (decimal s) has refl refl

  utf8 : (e : SessionEvent) → IsSessionEvent e → IsUtf8 (line_of e)
  unfolding chars is_utf8 encode_utf8
  utf8 (Begin s) within = with_word (codes "session") (decimal s) refl (number_utf8 s within)
  utf8 (Write s p cmds query) within =
      let rest = behind_word (event.Request p cmds query) (codes "request") _ (within.1, within.2) refl refl in
      let parts = with_number (decimal s) (decimal p) (update_text cmds query) (number_utf8 s within.0) rest in
      with_word (codes "swrite") _ refl parts
  utf8 (Weak s p query) within =
      let rest = behind_word (event.Weak p query) (codes "weak") _ (within.1, within.2) refl refl in
      let parts = with_number (decimal s) (decimal p) (query_text query) (number_utf8 s within.0) rest in
      with_word (codes "sweak") _ refl parts

  pub printed_are_read : PrintedAreRead
  printed_are_read e within =
      let is_text = is_utf8-from_IsUtf8 (line_of e) (utf8 e within) in
      (lines_exact known (line_of e) e).1 record {
        stands = stands e;
        is_text = is_text;
        within = within;
        same_tokens =
            refl;
      }
