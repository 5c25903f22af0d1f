-- A device that lets each message pass.
use Rattle.mbox_link.specs.declared.fates.Fate.TheVariants.{Pass}
use Rattle.mbox_link.specs.Meetings.{Doing}

abbrev pub calm : Doing
calm number = Pass
