-- A line reads as an event of a session exactly where its tokens are those of the event's printed line.
use Rattle.std.proofs.Common.{◌≡◌, ℕ, Bool, true, false, cond, List, [], ◌∷◌, ◌++◌, Option, Some, None, Result, Ok, Err, refl, sym, ap, subst, ◌∙◌, codes}
use Rattle.std.specs.Prelude.{decimal, option_map}
use Rattle.std.specs.Str.{is_utf8}
use Rattle.std.proofs.lemmas.List.{append-nil}
use Rattle.std.proofs.lemmas.Slice.Eq.{bytes_eq-Decides}
use Rattle.cg_base.specs.Sets.{IsId}
use Rattle.cg_text.specs.Order.{same_text}
use Rattle.cg_text.specs.Tokens.{is_word, is_passed_over, tokens}
use Rattle.cg_action.specs.declared.query.Query.{Query}
use Rattle.cg_action.specs.Print.{query_text, update_text}
use Rattle.cg_schedule.specs.declared.event.Event.{Event}
use Rattle.cg_schedule.specs.declared.event.Event.TheVariants as event
use Rattle.cg_schedule.specs.declared.fault.LineFault.{LineFault}
use Rattle.cg_schedule.specs.Fault.{not_utf8}
use Rattle.cg_schedule.specs.Reading.{done, whole}
use Rattle.cg_schedule.specs.Own.{some_read, after_word, tokens_reading}
use Rattle.cg_schedule.specs.Command.{Update, query_reading, update_reading}
use Rattle.cg_schedule.specs.Limits.{IsEvent}
use Rattle.cg_schedule.specs.Line.{word_text, event_word, request_reading, weak_reading as asked_reading, event_reading as schedule_reading}
use Rattle.cg_schedule.specs.Print.{line_of as schedule_line_of}
use Rattle.cg_session.specs.declared.event.SessionEvent.{SessionEvent}
use Rattle.cg_session.specs.declared.event.SessionEvent.TheVariants.{Begin, Write, Weak}
use Rattle.cg_session.specs.declared.word.SessionWord.{SessionWord}
use Rattle.cg_session.specs.declared.word.SessionWord.TheVariants.{Session, Swrite, Sweak}
use Rattle.cg_session.specs.Laws.{ReadsAs, ExactLines}
use Rattle.cg_session.specs.Line.{word_of, begin_reading, write_reading, weak_reading, event_reading, session_reading}
use Rattle.cg_session.proofs.Parts.{Known, id_token, number_found, number_again, Alike, of_session, into, back}
use Rattle.cg_base.specs.TextLaws.{blank_parts}
use Rattle.cg_base.specs.ListLaws.{same_rest}

-- ---- how a line begins

abbrev text_of : SessionWord → List ℕ
text_of Session = codes "session"
text_of Swrite = codes "swrite"
text_of Sweak = codes "sweak"

record Opens (line : List ℕ) (word : SessionWord) (ts : List (List ℕ)) : Type 0 where
  stands : is_passed_over line ≡ false
  is_text : is_utf8 line ≡ true
  line_tokens : tokens line ≡ text_of word ∷ ts

record Opened (line : List ℕ) (e : SessionEvent) : Type 0 where
  word : SessionWord
  rest : List (List ℕ)
  opens : Opens line word rest
  reads : whole (event_reading word) rest ≡ Ok e

word_of-text : (text : List ℕ) (word : SessionWord) → word_of text ≡ Some word → text ≡ text_of word
unfolding word_of
word_of-text text word = first (same_text text (codes "session")) refl where
  some : (a b : SessionWord) → Some a ≡ Some b → a ≡ b
  some a b e = cc

  is : (a : SessionWord) → same_text text (text_of a) ≡ true → Some a ≡ Some word → text ≡ text_of word
  is a same e = (bytes_eq-Decides text (text_of a)).0 same ∙ ap text_of (some a word e)

  third : (b : Bool) → same_text text (codes "sweak") ≡ b → cond b (Some Sweak) None ≡ Some word → text ≡ text_of word
  third true same e = is Sweak same e
  third false same e = absurd cc

  second : (b : Bool) → same_text text (codes "swrite") ≡ b →
      cond b (Some Swrite) (cond (same_text text (codes "sweak")) (Some Sweak) None) ≡ Some word → text ≡ text_of word
  second true same e = is Swrite same e
  second false same e = third (same_text text (codes "sweak")) refl e

  first : (b : Bool) → same_text text (codes "session") ≡ b
      → cond b (Some Session) (cond (same_text text (codes "swrite")) (Some Swrite)
      (cond (same_text text (codes "sweak")) (Some Sweak) None)) ≡ Some word → text ≡ text_of word
  first true same e = is Session same e
  first false same e = second (same_text text (codes "swrite")) refl e

word_of-again : (word : SessionWord) → word_of (text_of word) ≡ Some word
unfolding word_of
word_of-again Session = refl
word_of-again Swrite = refl
word_of-again Sweak = refl

opened : (line : List ℕ) (e : SessionEvent) → session_reading line ≡ Ok (Some e) → Opened line e
unfolding session_reading
opened line e = by_passed (is_passed_over line) refl where
  some_read-ok : (r : Result SessionEvent LineFault) → some_read r ≡ Ok (Some e) → r ≡ Ok e
  some_read-ok (Ok a) f = cc
  some_read-ok (Err fault) f = absurd cc

  by_text : (text : List ℕ) (rest : List (List ℕ)) (word : SessionWord) (b : Bool) → is_passed_over line ≡ false →
      tokens line ≡ text ∷ rest → word_of text ≡ Some word
      → is_utf8 line ≡ b → cond b (some_read (whole (event_reading word) rest)) (Err not_utf8) ≡ Ok (Some e) →
      Opened line e
  by_text text rest word true stands same is utf8 f = record {
    word = word;
    rest = rest;
    reads = some_read-ok (whole (event_reading word) rest) f;
    opens = record {
      stands = stands;
      is_text = utf8;
      line_tokens = same
          ∙ ap (λ (t : List ℕ). t ∷ rest) (word_of-text text word is);
    };
  }
  by_text text rest word false stands same is utf8 f = absurd cc

  by_word : (text : List ℕ) (rest : List (List ℕ)) (o : Option SessionWord) → is_passed_over line ≡ false →
      tokens line ≡ text ∷ rest → word_of text ≡ o
      → after_word (is_utf8 line) (option_map event_reading o) rest ≡ Ok (Some e) → Opened line e
  by_word text rest None stands same is f = absurd cc
  by_word text rest (Some word) stands same is f = by_text text rest word (is_utf8 line) stands same is refl f

  by_tokens : (ts : List (List ℕ)) → is_passed_over line ≡ false → tokens line ≡ ts →
      tokens_reading (λ word. option_map event_reading (word_of word)) (is_utf8 line) ts ≡ Ok (Some e) → Opened line e
  by_tokens [] stands same f = absurd cc
  by_tokens (text ∷ rest) stands same f = by_word text rest (word_of text) stands same refl f

  by_passed : (b : Bool) → is_passed_over line ≡ b →
      cond b (Ok None) (tokens_reading (λ word. option_map event_reading (word_of word)) (is_utf8 line) (tokens line))
      ≡ Ok (Some e) → Opened line e
  by_passed true passed f = absurd cc
  by_passed false passed f = by_tokens (tokens line) passed refl f

reopened : (line : List ℕ) (e : SessionEvent) (word : SessionWord) (ts : List (List ℕ)) → Opens line word ts →
    whole (event_reading word) ts ≡ Ok e → session_reading line ≡ Ok (Some e)
unfolding session_reading
reopened line e word ts opens reads =
    rw (opens.stands, opens.line_tokens, word_of-again word, opens.is_text, reads) refl

-- ---- the events of a schedule with the same parts

-- a write is a request, and a read a weak query
abbrev as_write : ℕ → Event → SessionEvent
as_write s (event.Request p cmds query) = Write s p cmds query
as_write s other = Begin s

abbrev requests : Alike Update
requests = record {
  part = update_reading;
  event = λ p u. event.Request p u.0 u.1;
  made = λ s p u. Write s p u.0 u.1;
  from = as_write;
  is_from = λ s p u. refl;
}

abbrev as_read : ℕ → Event → SessionEvent
as_read s (event.Weak p query) = Weak s p query
as_read s other = Begin s

abbrev queries : Alike Query
queries = record {
  part = query_reading;
  event = λ p query. event.Weak p query;
  made = λ s p query. Weak s p query;
  from = as_read;
  is_from = λ s p query. refl;
}

-- ---- the number, and the parts behind it

ended_done : (x e : SessionEvent) (left : List (List ℕ)) → whole (done x) left ≡ Ok e → (x ≡ e) × (left ≡ [])
ended_done x e [] f = (cc, refl)
ended_done x e (t ∷ left) f = absurd cc

module _ (known : Known) where
  -- a word and what stands behind a blank
  worded : (text rest : List ℕ) → is_word text ≡ true → tokens (text ++ 32 ∷ rest) ≡ text ∷ tokens rest
  worded text rest is = known.word text (32 ∷ rest) is refl ∙ ap (λ ts. text ∷ ts) (known.blank 32 rest refl)

  -- a number and what stands behind a blank
  numbered : (text s p rest : List ℕ) (n : ℕ) → is_word text ≡ true → IsId n → s ≡ decimal n
      → tokens (text ++ 32 ∷ ((((s ++ codes " ") ++ p) ++ codes " ") ++ rest))
      ≡ text ∷ s ∷ tokens ((p ++ codes " ") ++ rest)
  numbered text s p rest n is has e =
      let first : tokens (s ++ 32 ∷ ((p ++ codes " ") ++ rest)) ≡ s ∷ tokens (32 ∷ ((p ++ codes " ") ++ rest)) =
      rw e (id_token known n (32 ∷ ((p ++ codes " ") ++ rest)) has refl) in
      worded text _ is
      ∙ ap (λ ts. text ∷ ts) (ap tokens (blank_parts s p rest) ∙ first
      ∙ ap (λ ts. s ∷ ts) (known.blank 32 ((p ++ codes " ") ++ rest) refl))

  -- a number with which the line ends
  ending : (text : List ℕ) (n : ℕ) → is_word text ≡ true → IsId n →
      tokens (text ++ 32 ∷ decimal n) ≡ text ∷ decimal n ∷ []
  ending text n is has =
      let last : tokens (decimal n) ≡ decimal n ∷ [] =
      ap tokens (sym (append-nil (decimal n))) ∙ id_token known n [] has refl ∙ ap (λ ts. decimal n ∷ ts) known.none in
      worded text (decimal n) is ∙ ap (λ ts. text ∷ ts) last

  -- what follows the number in a line of a session, as what follows the word in a line of a schedule
  module _ (e : Event) (p text : List ℕ) (is : is_word (word_text (event_word e)) ≡ true)
      (line_is : schedule_line_of e ≡ word_text (event_word e) ++ 32 ∷ ((p ++ codes " ") ++ text)) where
    line_tokens : tokens (schedule_line_of e) ≡ word_text (event_word e) ∷ tokens ((p ++ codes " ") ++ text)
    line_tokens = ap tokens line_is ∙ worded (word_text (event_word e)) ((p ++ codes " ") ++ text) is

    parts_found : (left : List (List ℕ)) → whole (schedule_reading (event_word e)) left ≡ Ok e →
        IsEvent e × (left ≡ tokens ((p ++ codes " ") ++ text))
    parts_found left read =
        let r = (known.parts e left).0 read in
        (r.0, same_rest (word_text (event_word e)) left (tokens ((p ++ codes " ") ++ text)) (sym r.1 ∙ line_tokens))

    parts_again : IsEvent e → whole (schedule_reading (event_word e)) (tokens ((p ++ codes " ") ++ text)) ≡ Ok e
    parts_again within = (known.parts e (tokens ((p ++ codes " ") ++ text))).1 (within, line_tokens)

  -- the tokens of a line with a number and two parts more
  three_tokens : (line : List ℕ) (w : SessionWord) (ts : List (List ℕ)) (s : ℕ) (left : List (List ℕ))
      (p text : List ℕ) → Opens line w ts → is_word (text_of w) ≡ true → IsId s → ts ≡ decimal s ∷ left →
      left ≡ tokens ((p ++ codes " ") ++ text) →
      tokens line ≡ tokens (text_of w ++ 32 ∷ ((((decimal s ++ codes " ") ++ p) ++ codes " ") ++ text))
  three_tokens line w ts s left p text opens is has same left_is =
      opens.line_tokens ∙ ap (λ us. text_of w ∷ us) (same ∙ ap (λ us. decimal s ∷ us) left_is)
      ∙ sym (numbered (text_of w) (decimal s) p text s is has refl)

  -- ---- each event

  found : (line : List ℕ) (e : SessionEvent) (w : SessionWord) (ts : List (List ℕ)) → Opens line w ts →
      whole (event_reading w) ts ≡ Ok e → ReadsAs line e
  unfolding event_reading begin_reading write_reading weak_reading schedule_reading request_reading asked_reading
  found line e Session ts opens read =
      let n = number_found known (λ s. done (Begin s)) ts e read in
      let end = ended_done (Begin n.0) e n.1 n.4 in
      subst (ReadsAs line) end.0 record {
        stands = opens.stands;
        is_text = opens.is_text;
        within = n.2;
        same_tokens = opens.line_tokens ∙ ap (λ ts. codes "session" ∷ ts) (n.3 ∙ ap (λ ts. decimal n.0 ∷ ts) end.1)
            ∙ sym (ending (codes "session") n.0 refl n.2);
      }
  found line e Swrite ts opens read =
      let n = number_found known (of_session requests) ts e read in
      let b = back requests n.0 n.1 e n.4 in
      let text = update_text b.x.0 b.x.1 in
      let f = parts_found (requests.event b.p b.x) (decimal b.p) text refl refl n.1 b.reads in
      subst (ReadsAs line) b.is_made record {
        stands = opens.stands;
        is_text = opens.is_text;
        within = (n.2, f.0.0, f.0.1);
        same_tokens = three_tokens line Swrite ts n.0 n.1 (decimal b.p) text opens refl n.2 n.3 f.1;
      }
  found line e Sweak ts opens read =
      let n = number_found known (of_session queries) ts e read in
      let b = back queries n.0 n.1 e n.4 in
      let text = query_text b.x in
      let f = parts_found (queries.event b.p b.x) (decimal b.p) text refl refl n.1 b.reads in
      subst (ReadsAs line) b.is_made record {
        stands = opens.stands;
        is_text = opens.is_text;
        within = (n.2, f.0.0, f.0.1);
        same_tokens = three_tokens line Sweak ts n.0 n.1 (decimal b.p) text opens refl n.2 n.3 f.1;
      }

  again : (line : List ℕ) (e : SessionEvent) → ReadsAs line e → Opened line e
  unfolding event_reading begin_reading write_reading weak_reading schedule_reading request_reading asked_reading
  again line (Begin s) r = record {
    word = Session;
    rest = decimal s ∷ [];
    opens = record {
      stands = r.stands;
      is_text = r.is_text;
      line_tokens = r.same_tokens
          ∙ ending (codes "session") s refl r.within;
    };
    reads = number_again known (λ n. done (Begin n)) s [] r.within;
  }
  again line (Write s p cmds query) r =
      let parts = (decimal p ++ codes " ") ++ update_text cmds query in
      let read = parts_again (event.Request p cmds query) (decimal p) (update_text cmds query) refl refl
      (r.within.1, r.within.2) in
      record {
        word = Swrite;
        rest = decimal s ∷ tokens parts;
        opens = record {
          stands = r.stands;
          is_text = r.is_text;
          line_tokens = r.same_tokens
              ∙ numbered (codes "swrite") (decimal s) (decimal p) (update_text cmds query) s refl r.within.0 refl;
        };
        reads = number_again known (of_session requests) s (tokens parts) r.within.0
            ∙ into requests s (tokens parts) (event.Request p cmds query) read;
      }
  again line (Weak s p query) r =
      let parts = (decimal p ++ codes " ") ++ query_text query in
      let read = parts_again (event.Weak p query) (decimal p) (query_text query) refl refl
      (r.within.1, r.within.2) in
      record {
        word = Sweak;
        rest = decimal s ∷ tokens parts;
        opens = record {
          stands = r.stands;
          is_text = r.is_text;
          line_tokens = r.same_tokens
              ∙ numbered (codes "sweak") (decimal s) (decimal p) (query_text query) s refl r.within.0 refl;
        };
        reads = number_again known (of_session queries) s (tokens parts) r.within.0
            ∙ into queries s (tokens parts) (event.Weak p query) read;
      }

  pub lines_exact : ExactLines
  lines_exact line e = (reads, read_again) where
    reads : session_reading line ≡ Ok (Some e) → ReadsAs line e
    reads f = let o = opened line e f in found line e o.word o.rest o.opens o.reads

    read_again : ReadsAs line e → session_reading line ≡ Ok (Some e)
    read_again r = let o = again line e r in reopened line e o.word o.rest o.opens o.reads
