-- `find_indexed`: the name is lent as a word.
use Rattle.text_methods.proofs.Looking.{lent-word}
use Rattle.text_methods.proofs.methods.Methods.find_indexed.Goals as goal

pub returns : goal.returns
returns c = lent-word c.args.self.now.text.now c.args.start c.args.end c.requires.0 c.find_word.ensures
