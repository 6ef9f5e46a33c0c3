use Rattle.oz_sound.specs.frames.laws.Becoming.{bucket_becomes}
use Rattle.oz_sound.proofs.frames.laws.a_bucket_becomes.Goals as goal

pub returns : goal.returns
returns c = bucket_becomes
