-- A side on which a record is added, and what a crash leaves of it.
use Rattle.std.proofs.Common.{◌≡◌, ◌≢◌, ℕ, ◌+◌, ◌-◌, ◌^◌, ◌≤◌, ◌<◌, List, [], ◌∷◌, ◌++◌, length, get_or, take, drop, refl, sym, ◌∙◌, ap, arith, append_assoc, length-append, take-append-drop}
use Rattle.std.proofs.lemmas.List.{take_at, drop_at, drop_more, append-nil, get_or_at}
use Rattle.cg_disk.specs.Writes.{Torn, overwritten}
use Rattle.cg_codec.specs.Fields.{number32}
use Rattle.cg_journal.specs.Records.{header, framed, spelled, AreShort, HasRecords}
use Rattle.cg_codec.specs.PlainLaws.{length-number32}

-- the front of a side up to the gate behind its records
abbrev front : List (List ℕ) → List ℕ
front bodies = header ++ spelled bodies

length-front : (bodies : List (List ℕ)) → length (front bodies) ≡ 8 + length (spelled bodies)
length-front bodies = length-append header (spelled bodies)

pub length-framed : (body : List ℕ) → length (framed body) ≡ 5 + length body
length-framed body = omega (arith, length-append (number32 (length body) ++ body) (0 ∷ []), length-append (number32 (length body)) body, length-number32 (length body))

pub spelled-push : (bodies : List (List ℕ)) (body : List ℕ) (more : List ℕ) → spelled (bodies ++ body ∷ []) ++ more ≡ spelled bodies ++ 1 ∷ (number32 (length body) ++ body ++ more)
spelled-push [] body more = ap (λ (l : List ℕ). 1 ∷ (l ++ more)) (append-nil (number32 (length body) ++ body))
spelled-push (b ∷ bodies) body more =
    ap (λ (l : List ℕ). 1 ∷ l) (append_assoc (number32 (length b) ++ b) (spelled (bodies ++ body ∷ [])) more
    ∙ ap (λ (l : List ℕ). number32 (length b) ++ b ++ l) (spelled-push bodies body more)
    ∙ sym (append_assoc (number32 (length b) ++ b) (spelled bodies) (1 ∷ (number32 (length body) ++ body ++ more))))

pub short-push : (bodies : List (List ℕ)) (body : List ℕ) → AreShort bodies → length body < 2 ^ 32 → AreShort (bodies ++ body ∷ [])
short-push [] body short one = (one, tt)
short-push (b ∷ bodies) body short one = (short.0, short-push bodies body short.1 one)

module _ (side : List ℕ) (end : ℕ) (bodies : List (List ℕ)) (has : HasRecords side end bodies) where
  length-closed : length (front bodies ++ has.gate ∷ []) ≡ end
  length-closed = omega (arith, has.ends, length-append (front bodies) (has.gate ∷ []), length-front bodies)

  split : side ≡ front bodies ++ has.gate ∷ [] ++ has.rest
  split = has.spelled_out ∙ sym (append_assoc header (spelled bodies) (has.gate ∷ has.rest)) ∙ sym (append_assoc (front bodies) (has.gate ∷ []) has.rest)

  take_end : take end side ≡ front bodies ++ has.gate ∷ []
  take_end = ap (take end) split ∙ take_at (front bodies ++ has.gate ∷ []) has.rest end length-closed

  pub end_within : end ≤ length side
  end_within = omega (arith, ap length split, length-append (front bodies ++ has.gate ∷ []) has.rest, length-closed)

  same_is : (c : List ℕ) → take end c ≡ take end side → c ≡ front bodies ++ has.gate ∷ drop end c
  same_is c same = sym (take-append-drop end c) ∙ ap (λ (l : List ℕ). l ++ drop end c) (same ∙ take_end) ∙ append_assoc (front bodies) (has.gate ∷ []) (drop end c)

  -- what agrees up to there has the same records
  pub same_front : (c : List ℕ) → take end c ≡ take end side → HasRecords c end bodies
  same_front c same = record {
    gate = has.gate;
    rest = drop end c;
    spelled_out = same_is c same ∙ append_assoc header (spelled bodies) (has.gate ∷ drop end c);
    closed = has.closed;
    short = has.short;
    ends = has.ends;
  }

  pub gate_of_same : (c : List ℕ) → take end c ≡ take end side → get_or c (end - 1) 0 ≡ has.gate
  gate_of_same c same = ap (λ (l : List ℕ). get_or l (end - 1) 0) (same_is c same) ∙ get_or_at (front bodies) has.gate (drop end c) 0 (end - 1) (omega (arith, length-front bodies, has.ends))

  -- the record behind the gate
  module _ (body : List ℕ) (body_short : length body < 2 ^ 32) where
    pub staged : List ℕ
    staged = overwritten side end (framed body)

    behind : List ℕ
    behind = drop (end + length (framed body)) side

    staged_is : overwritten side end (framed body) ≡ front bodies ++ has.gate ∷ (framed body ++ drop (end + length (framed body)) side)
    staged_is =
        ap (λ (l : List ℕ). l ++ framed body ++ drop (end + length (framed body)) side) take_end
        ∙ append_assoc (front bodies ++ has.gate ∷ []) (framed body) (drop (end + length (framed body)) side)
        ∙ append_assoc (front bodies) (has.gate ∷ []) (framed body ++ drop (end + length (framed body)) side)

    pub take_staged : take end (overwritten side end (framed body)) ≡ take end side
    take_staged =
        ap (take end) (staged_is ∙ sym (append_assoc (front bodies) (has.gate ∷ []) (framed body ++ drop (end + length (framed body)) side)))
        ∙ take_at (front bodies ++ has.gate ∷ []) _ end length-closed ∙ sym take_end

    before_gate : length (front bodies) ≡ end - 1
    before_gate = omega (arith, length-front bodies, has.ends)

    -- the record stands whole behind any gate
    opened : (gate : ℕ) (c more : List ℕ) → c ≡ front bodies ++ gate ∷ (framed body ++ more) → gate ≡ 1 → HasRecords c (end + 5 + length body) (bodies ++ body ∷ [])
    opened gate c more is is_one = record {
      gate = 0;
      rest = more;
      spelled_out =
          is ∙ append_assoc header (spelled bodies) (gate ∷ (framed body ++ more))
          ∙ ap (λ g. header ++ (spelled bodies ++ g ∷ (framed body ++ more))) is_one
          ∙ ap (λ (l : List ℕ). header ++ (spelled bodies ++ 1 ∷ l)) (append_assoc (number32 (length body) ++ body) (0 ∷ []) more)
          ∙ ap (λ (l : List ℕ). header ++ l) (sym (spelled-push bodies body (0 ∷ more)));
      closed = λ is_open. absurd (omega arith);
      short = short-push bodies body has.short body_short;
      ends = omega (arith, has.ends, length-pushed);
    }
      where
        length-pushed : length (spelled (bodies ++ body ∷ [])) ≡ length (spelled bodies) + 5 + length body
        length-pushed =
            let whole = ap length (spelled-push bodies body (0 ∷ [])) in
            omega (arith, whole, length-append (spelled (bodies ++ body ∷ [])) (0 ∷ []), length-append (spelled bodies) (1 ∷ (number32 (length body) ++ body ++ 0 ∷ [])), length-framed body)

    shut : (gate : ℕ) (c more : List ℕ) → c ≡ front bodies ++ gate ∷ (framed body ++ more) → gate ≢ 1 → HasRecords c end bodies
    shut gate c more is closed = record { gate = gate; rest = framed body ++ more; spelled_out = is ∙ append_assoc header (spelled bodies) (gate ∷ (framed body ++ more)); closed = closed; short = has.short; ends = has.ends }

    -- the gate torn
    torn_gate : (c : List ℕ) → Torn (end - 1) 1 (overwritten side end (framed body)) c → c ≡ front bodies ++ get_or c (end - 1) 0 ∷ (framed body ++ drop (end + length (framed body)) side)
    torn_gate c torn =
        let next : end - 1 + 1 ≡ end = omega (arith, has.ends) in
        let start : take (end - 1) c ≡ front bodies = torn.before ∙ ap (take (end - 1)) staged_is ∙ take_at (front bodies) _ (end - 1) before_gate in
        let inside : end - 1 < length c = omega (arith, torn.no_shorter, ap length staged_is, length-append (front bodies) (has.gate ∷ (framed body ++ drop (end + length (framed body)) side)), before_gate) in
        let tail : drop (end - 1 + 1) c ≡ framed body ++ drop (end + length (framed body)) side =
        torn.after ∙ ap (drop (end - 1 + 1)) (staged_is ∙ sym (append_assoc (front bodies) (has.gate ∷ []) (framed body ++ drop (end + length (framed body)) side)))
        ∙ drop_at (front bodies ++ has.gate ∷ []) _ (end - 1 + 1) (omega (arith, length-closed, next)) in
        sym (take-append-drop (end - 1) c)
        ∙ ap (λ (l : List ℕ). l ++ drop (end - 1) c) start
        ∙ ap (λ (l : List ℕ). front bodies ++ l) (drop_more c (end - 1) 0 inside ∙ ap (λ (l : List ℕ). get_or c (end - 1) 0 ∷ l) tail)

    pub torn_open : (c : List ℕ) → Torn (end - 1) 1 (overwritten side end (framed body)) c → get_or c (end - 1) 0 ≡ 1 → HasRecords c (end + 5 + length body) (bodies ++ body ∷ [])
    torn_open c torn is_one = opened (get_or c (end - 1) 0) c _ (torn_gate c torn) is_one

    pub torn_shut : (c : List ℕ) → Torn (end - 1) 1 (overwritten side end (framed body)) c → get_or c (end - 1) 0 ≢ 1 → HasRecords c end bodies
    torn_shut c torn closed = shut (get_or c (end - 1) 0) c _ (torn_gate c torn) closed

    -- the gate written
    pub gate_written : HasRecords (overwritten (overwritten side end (framed body)) (end - 1) (1 ∷ [])) (end + 5 + length body) (bodies ++ body ∷ [])
    gate_written = opened 1 (overwritten (overwritten side end (framed body)) (end - 1) (1 ∷ [])) (drop (end + length (framed body)) side) is refl
      where
        next : end - 1 + 1 ≡ end
        next = omega (arith, has.ends)

        is : overwritten (overwritten side end (framed body)) (end - 1) (1 ∷ []) ≡ front bodies ++ 1 ∷ (framed body ++ drop (end + length (framed body)) side)
        is =
            ap (λ (l : List ℕ). take (end - 1) l ++ (1 ∷ []) ++ drop (end - 1 + 1) l) staged_is
            ∙ ap (λ (l : List ℕ). l ++ (1 ∷ []) ++ drop (end - 1 + 1) (front bodies ++ has.gate ∷ (framed body ++ drop (end + length (framed body)) side))) (take_at (front bodies) _ (end - 1) before_gate)
            ∙ ap (λ (l : List ℕ). front bodies ++ (1 ∷ []) ++ l) (ap (drop (end - 1 + 1)) (sym (append_assoc (front bodies) (has.gate ∷ []) (framed body ++ drop (end + length (framed body)) side))) ∙ drop_at (front bodies ++ has.gate ∷ []) _ (end - 1 + 1) (omega (arith, length-closed, next)))
            ∙ append_assoc (front bodies) (1 ∷ []) (framed body ++ drop (end + length (framed body)) side)
