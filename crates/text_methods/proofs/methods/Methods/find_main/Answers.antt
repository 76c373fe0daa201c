-- `find_main`: what is found is a method of the tree.
use Rattle.text.specs.Tree.{ascii}
use Rattle.text_methods.proofs.Found.{method-says}
use Rattle.text_methods.proofs.methods.Methods.find_main.Goals as goal

pub returns : goal.returns
returns c =
    λ ms us p e. method-says c.args.self.now.text.now (record { spelling = ascii "main"; at = p }) ms us e
    c.find_word.ensures
