-- Every small step keeps the facts about what is said.
use Rattle.std.proofs.Common.{◌≡◌, true, not}
use Rattle.std.proofs.lemmas.Bool.{and_parts}
use Rattle.cg_model.specs.World.{has_begun}
use Rattle.cg_model.specs.Chronicle.{Chronicle}
use Rattle.cg_model.specs.Facts.{Invariant}
use Rattle.cg_model.specs.FactsTalk.{TalkFacts, TalkLegal, SentIffDue, ModeFits}
use Rattle.cg_model.specs.Small.{Small, Starts, Makes, Enters, Orders, Receives, Hands, Leaves, Asks, Settles, Commits, Crashes, Recovers, Copies, Joins, small_step}
use Rattle.cg_model.specs.Smalls.{may_make, is_running}
use Rattle.cg_agree.proofs.ActsCreated.{talk-settles, talk-asks}
use Rattle.cg_agree_lemmas.specs.ActsOrdered.{talk-orders}
use Rattle.cg_agree.proofs.AnswersOwn.{can-answer-there, knows-at-end}
use Rattle.cg_agree.proofs.HandsAll.{talk-hands}
use Rattle.cg_agree.proofs.LeavesTalk.{talk-parts}
use Rattle.cg_agree_lemmas.specs.OneSteps.{may-join}
use Rattle.cg_agree.proofs.TalkAlone.{talk-crashes, talk-recovers, talk-copies, talk-joins, talk-starts}
use Rattle.cg_agree.proofs.TalkEnters.{talk-enters}
use Rattle.cg_agree_lemmas.specs.TalkMakes.{talk-makes}
use Rattle.cg_agree.proofs.TalkQuiet.{talk-receives, talk-commits}

pub talk-kept : (c : Chronicle) (s : Small) → Invariant c → may_make c s ≡ true → TalkFacts (small_step c s)
unfolding may_make
talk-kept c (Starts set) i m = talk-starts c set i.talk
talk-kept c (Makes set) i m = talk-makes c set i.net.phase_sound i.talk
talk-kept c (Enters p) i m = talk-enters c p i.net.phase_sound (i.replica.mode_data p) m i.talk
talk-kept c (Orders p) i m = talk-orders c p i.net.phase_sound i.net.receipts_inside m i.talk
talk-kept c (Receives p place) i m = talk-receives c p place i.net.phase_sound m i.talk
talk-kept c (Hands p) i m =
    talk-hands c p i.net.phase_sound i.replica.mode_data i.attempt.attempt_shape i.replica.cores i.exchange.summary_of_sender m (can-answer-there c p i) (knows-at-end c p i) i.talk
talk-kept c (Leaves p set own places) i m = talk-parts c p set own places i.net.phase_sound i.replica.mode_data i.attempt.attempt_shape m i.talk
talk-kept c (Asks p kind) i m = talk-asks c p kind i.net.phase_sound i.replica.mode_data i.replica.cores i.talk
talk-kept c (Settles p) i m = talk-settles c p i.net.phase_sound i.replica.mode_data i.replica.cores i.talk
talk-kept c (Commits p) i m = talk-commits c p i.talk
talk-kept c (Crashes p) i m = talk-crashes c p m i.talk
talk-kept c (Recovers p) i m = talk-recovers c p i.net.hosted (and_parts (has_begun c.world p) (not (is_running c p)) m).0 i.talk
talk-kept c (Copies p joiner) i m = talk-copies c p joiner i.talk
talk-kept c (Joins joiner) i m = talk-joins c joiner (may-join c joiner m) i.talk

pub talk_legal-kept : (c : Chronicle) (s : Small) → Invariant c → may_make c s ≡ true → TalkLegal (small_step c s)
talk_legal-kept c s i m = (talk-kept c s i m).talk_legal

pub sent_iff_due-kept : (c : Chronicle) (s : Small) → Invariant c → may_make c s ≡ true → SentIffDue (small_step c s)
sent_iff_due-kept c s i m = (talk-kept c s i m).sent_iff_due

pub mode_fits-kept : (c : Chronicle) (s : Small) → Invariant c → may_make c s ≡ true → ModeFits (small_step c s)
mode_fits-kept c s i m = (talk-kept c s i m).mode_fits
