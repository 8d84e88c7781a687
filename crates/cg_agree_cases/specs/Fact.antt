-- The names of what is tried.

-- the facts of the invariant, each by its name; what a small step never takes back; what rests at the end of a step; and of a run:
-- that each small step may be made, and each crash comes at rest; that the small steps lead to the event's world; and that each
-- event may stand where it does, and is admitted
pub data Fact : Type 0 where
  NodesRise : Fact
  StandingsRise : Fact
  ReceiversRise : Fact
  JoinersAreServers : Fact
  Hosted : Fact
  PhaseSound : Fact
  ReceiptsInside : Fact
  SenderClosed : Fact
  HandedReceived : Fact
  UnorderedRegular : Fact
  MembersBegun : Fact
  PastLeft : Fact
  TalkLegal : Fact
  SentIffDue : Fact
  HeardIsTold : Fact
  ModeFits : Fact
  Content : Fact
  ActsNumbered : Fact
  MadeOfGreens : Fact
  Contiguous : Fact
  YellowClosed : Fact
  ModeData : Fact
  DiskBehind : Fact
  MadeOnce : Fact
  Origins : Fact
  LinesBelow : Fact
  SummaryOfSender : Fact
  SummaryLines : Fact
  TellersStill : Fact
  ExchangeProgress : Fact
  AttemptShape : Fact
  AttemptList : Fact
  YellowValid : Fact
  LeftOut : Fact
  LevelsStand : Fact
  AnnouncedEntered : Fact
  InstalledAnnounced : Fact
  ActInstalled : Fact
  RecordOfAttempt : Fact
  InstalledIndex : Fact
  BitsWitness : Fact
  DeadEvidence : Fact
  OneAttempt : Fact
  BeginsWith : Fact
  PrimaryGreens : Fact
  InstalledCount : Fact
  Spine : Fact
  OneOrder : Fact
  TransCoverage : Fact
  Coverage : Fact
  ReceiptsFixed : Fact
  ListsGrow : Fact
  DiskAgrees : Fact
  BufferEmpty : Fact
  OrderBook : Fact
  MadeBook : Fact
  MayMake : Fact
  AtRest : Fact
  IsSame : Fact
  MayStand : Fact
  IsAdmitted : Fact
