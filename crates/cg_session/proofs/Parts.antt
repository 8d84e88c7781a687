-- Numbers of sessions, and the parts behind them, which are those of events of a schedule.
use Rattle.std.proofs.Common.{◌≡◌, ℕ, ◌^◌, ◌<◌, true, List, [], ◌∷◌, ◌++◌, Result, Ok, Err, refl, sym, ap, ◌∙◌, arith}
use Rattle.std.specs.Prelude.{◌↔◌, decimal}
use Rattle.std.specs.Fmt.{digits}
use Rattle.std.proofs.lemmas.Bool.{le-leb}
use Rattle.cg_base.specs.Replicas.{every_replica}
use Rattle.cg_base.specs.Sets.{IsId}
use Rattle.cg_base.specs.SetLaws.{each-replica}
use Rattle.cg_text.specs.Fault.{IsSpelling}
use Rattle.cg_text.specs.Numbers.{read_u64}
use Rattle.cg_text.specs.Tokens.{is_blank, is_word, ends_word, tokens}
use Rattle.cg_schedule.specs.declared.event.Event.{Event}
use Rattle.cg_schedule.specs.declared.fault.LineFault.{LineFault}
use Rattle.cg_schedule.specs.Reading.{Reading, go_on, ◌>>=◌, done, ended, whole}
use Rattle.cg_schedule.specs.Part.{number, id_part}
use Rattle.cg_schedule.specs.Limits.{IsEvent}
use Rattle.cg_schedule.specs.Line.{word_text, event_word, event_reading}
use Rattle.cg_schedule.specs.Print.{line_of}
use Rattle.cg_session.specs.declared.event.SessionEvent.{SessionEvent}
use Rattle.cg_schedule.specs.PartLaws.{read_as, same_read, lifted-ok}
use Rattle.cg_schedule.specs.NumberLaws.{in_range-ok}

-- the laws of numbers, of tokens, and of the parts behind a word of a schedule
pub record Known : Type 0 where
  pub numbers : IsSpelling (λ n. n < 2 ^ 64) decimal read_u64
  pub none : tokens [] ≡ []
  pub blank : (byte : ℕ) (rest : List ℕ) → is_blank byte ≡ true → tokens (byte ∷ rest) ≡ tokens rest
  pub word : (word rest : List ℕ) → is_word word ≡ true → ends_word rest ≡ true →
      tokens (word ++ rest) ≡ word ∷ tokens rest
  pub parts : (e : Event) (parts : List (List ℕ)) → (whole (event_reading (event_word e)) parts ≡ Ok e) ↔
      (IsEvent e × (tokens (line_of e) ≡ word_text (event_word e) ∷ parts))

-- ---- numbers

module _ (known : Known) where
  pub id_found : (ts : List (List ℕ)) (n : ℕ) (left : List (List ℕ)) → id_part ts ≡ Ok (n, left) → IsId n ×
      (ts ≡ decimal n ∷ left)
  unfolding id_part number
  id_found [] n left e = absurd cc
  id_found (t ∷ ts) n left e =
      let l = lifted-ok (number 1 32 t) ts n left e in
      let r = in_range-ok 1 32 (read_u64 t) n l.0 in
      (r.1, both t (decimal n) ts left (known.numbers.found t n r.0).1 l.1)
    where
      both : (a b : List ℕ) (l m : List (List ℕ)) → a ≡ b → l ≡ m → a ∷ l ≡ b ∷ m
      both a b l m x y = cc

  pub id_again : (n : ℕ) (left : List (List ℕ)) → IsId n → id_part (decimal n ∷ left) ≡ Ok (n, left)
  unfolding id_part number
  id_again n left has = rw (known.numbers.again n (omega arith), le-leb 1 n has.0, le-leb n 32 has.1) refl

  -- a number, and what is read behind it
  pub number_found : (next : ℕ → Reading SessionEvent) (ts : List (List ℕ)) (y : SessionEvent) →
      whole (id_part >>= next) ts ≡ Ok y
      → (n : ℕ) × (left : List (List ℕ)) × IsId n × (ts ≡ decimal n ∷ left) × (whole (next n) left ≡ Ok y)
  number_found next ts y = by_number (id_part ts) refl where
    by_number : (r : Result (ℕ × List (List ℕ)) LineFault) → id_part ts ≡ r → ended (go_on r next) ≡ Ok y
        → (n : ℕ) × (left : List (List ℕ)) × IsId n × (ts ≡ decimal n ∷ left) × (whole (next n) left ≡ Ok y)
    by_number (Ok (n, left)) a h = let f = id_found ts n left a in (n, left, f.0, f.1, h)
    by_number (Err fault) a h = absurd cc

  pub number_again : (next : ℕ → Reading SessionEvent) (n : ℕ) (left : List (List ℕ)) → IsId n →
      whole (id_part >>= next) (decimal n ∷ left) ≡ whole (next n) left
  number_again next n left has =
      ap (λ (r : Result (ℕ × List (List ℕ)) LineFault). ended (go_on r next)) (id_again n left has)

  -- a number of a session is a word
  pub id_token : (n : ℕ) (rest : List ℕ) → IsId n → ends_word rest ≡ true →
      tokens (decimal n ++ rest) ≡ decimal n ∷ tokens rest
  unfolding every_replica digits
  id_token n rest has ends = known.word (decimal n) rest (each-replica (λ m. is_word (decimal m)) n refl has) ends

-- ---- readings that begin alike

-- A part that stands behind a replica: the event of a schedule that the two make, and the event of a session.
pub record Alike (X : Type 0) : Type 0 where
  pub part : Reading X
  pub event : ℕ → X → Event
  pub made : ℕ → ℕ → X → SessionEvent
  pub from : ℕ → Event → SessionEvent
  pub is_from : (s p : ℕ) (x : X) → from s (event p x) ≡ made s p x

abbrev pub of_schedule : {X : Type 0} → Alike X → Reading Event
of_schedule a = id_part >>= λ p. a.part >>= λ x. done (a.event p x)

abbrev pub of_session : {X : Type 0} → Alike X → ℕ → Reading SessionEvent
of_session a s = id_part >>= λ p. a.part >>= λ x. done (a.made s p x)

-- what was read for a session is read in a schedule
pub record Both {X : Type 0} (a : Alike X) (s : ℕ) (ts : List (List ℕ)) (e : SessionEvent) : Type 0 where
  pub p : ℕ
  pub x : X
  pub is_made : a.made s p x ≡ e
  pub reads : whole (of_schedule a) ts ≡ Ok (a.event p x)

module _ {X : Type 0} (a : Alike X) (s : ℕ) (ts : List (List ℕ)) where
  pub into : (e : Event) → whole (of_schedule a) ts ≡ Ok e → whole (of_session a s) ts ≡ Ok (a.from s e)
  into e = by_replica (id_part ts) where
    by_part : (p : ℕ) (r : Result (X × List (List ℕ)) LineFault) → ended (go_on r (λ x. done (a.event p x))) ≡ Ok e →
        ended (go_on r (λ x. done (a.made s p x))) ≡ Ok (a.from s e)
    by_part p (Ok (x, [])) h = ap read_as (sym (a.is_from s p x) ∙ ap (a.from s) (same_read (a.event p x) e h))
    by_part p (Ok (x, t ∷ left)) h = absurd cc
    by_part p (Err fault) h = absurd cc

    by_replica : (r : Result (ℕ × List (List ℕ)) LineFault) →
        ended (go_on r (λ p. a.part >>= λ x. done (a.event p x))) ≡ Ok e
        → ended (go_on r (λ p. a.part >>= λ x. done (a.made s p x))) ≡ Ok (a.from s e)
    by_replica (Ok (p, left)) h = by_part p (a.part left) h
    by_replica (Err fault) h = absurd cc

  pub back : (e : SessionEvent) → whole (of_session a s) ts ≡ Ok e → Both a s ts e
  back e = by_replica (id_part ts) refl where
    by_part : (p : ℕ) (left : List (List ℕ)) (r : Result (X × List (List ℕ)) LineFault) → id_part ts ≡ Ok (p, left) →
        a.part left ≡ r
        → ended (go_on r (λ x. done (a.made s p x))) ≡ Ok e → Both a s ts e
    by_part p left (Ok (x, [])) one other h =
        record { p = p; x = x; is_made = same_read (a.made s p x) e h; reads = rw (one, other) refl }
    by_part p left (Ok (x, t ∷ more)) one other h = absurd cc
    by_part p left (Err fault) one other h = absurd cc

    by_replica : (r : Result (ℕ × List (List ℕ)) LineFault) → id_part ts ≡ r →
        ended (go_on r (λ p. a.part >>= λ x. done (a.made s p x))) ≡ Ok e → Both a s ts e
    by_replica (Ok (p, left)) one h = by_part p left (a.part left) one refl h
    by_replica (Err fault) one h = absurd cc
