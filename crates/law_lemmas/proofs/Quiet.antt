-- News that asks nothing, and what is handed over that gives none other.
use Rattle.std.proofs.Common.{ℕ, Bool, true, false, if◌then◌else◌, List, Option, None, Some}
use Rattle.std.specs.Prelude.{Result, Ok, Err}
use Rattle.salus_types.specs.declared.names.NodeName.{NodeName}
use Rattle.salus_types.specs.declared.names.Sender.{Sender}
use Rattle.salus_types.specs.declared.names.Sender.TheVariants as sender
use Rattle.salus_message.specs.declared.wire.Message.{Message}
use Rattle.salus_message.specs.declared.wire.MessageError.{MessageError}
use Rattle.salus_message.specs.Reading.{message_at}
use Rattle.volume_model.specs.Groups.{is_client}
use Rattle.salus_model.specs.declared.trace.Handed.{Handed}
use Rattle.salus_model.specs.declared.trace.Handed.TheVariants as handed
use Rattle.salus_model.specs.declared.trace.TraceStep.{TraceStep}
use Rattle.salus_model.specs.Following.{Posted, posted_at}
use Rattle.salus_model.specs.Hearing.{News, Asks, Says, Crashes, Silence, news_of, news_in, news_from, news_of_message, news_of_post}

-- news that is no request
abbrev pub IsQuiet : News → Type 0
IsQuiet (Asks r) = ⊥
IsQuiet (Says name x) = Unit {0}
IsQuiet Crashes = Unit {0}
IsQuiet Silence = Unit {0}

pub quiet_message : (name : NodeName) (r : Result Message MessageError) → IsQuiet (news_of_message name r)
quiet_message name (Ok m) = tt
quiet_message name (Err e) = tt

pub quiet_from : (from : Sender) (bytes : List ℕ) → IsQuiet (news_from from bytes)
quiet_from sender.Client bytes = tt
quiet_from (sender.Node name) bytes = quiet_message name (message_at bytes)

pub quiet_post : (o : Option Posted) → IsQuiet (news_of_post o)
quiet_post None = tt
quiet_post (Some m) = quiet_from m.from m.bytes

pub quiet_if : (t : Bool) (news : News) → IsQuiet news → IsQuiet (if t then news else Silence)
quiet_if true news quiet = quiet
quiet_if false news quiet = tt

-- ---- what is handed over

abbrev pub IsNotAsked : Handed → Type 0
IsNotAsked (handed.Asked r) = ⊥
IsNotAsked other = Unit {0}

quiet_in : (posts : List Posted) (h : Handed) → IsNotAsked h → IsQuiet (news_in posts h)
quiet_in posts (handed.Asked r) n = absurd n
quiet_in posts (handed.Deliver k) n = quiet_post (posted_at posts k)
quiet_in posts (handed.Stop k) n = tt
quiet_in posts (handed.Lie s bytes) n = quiet_from s bytes
quiet_in posts handed.Tick n = tt
quiet_in posts handed.Crash n = tt
quiet_in posts handed.Replace n = tt
quiet_in posts handed.ClientCrash n = tt

pub quiet_news : (posts : List Posted) (step : TraceStep) → IsNotAsked step.handed → IsQuiet (news_of posts step)
quiet_news posts step n = quiet_if (is_client step.party) (news_in posts step.handed) (quiet_in posts step.handed n)
