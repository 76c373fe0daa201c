-- `is_word`: a word is the whole of itself.
use Rattle.text_tokens.proofs.Parts.{part-whole}
use Rattle.text_tokens.proofs.bytes.is_word.Goals as goal

pub returns : goal.returns
returns c = rw (part-whole c.args.word.now) at c.same_bytes.ensures
