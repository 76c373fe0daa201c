-- `method_indexed`: what is found is a method of the tree.
use lib.Seq.{slice}
use Rattle.text_methods.proofs.Found.{method-says}
use Rattle.text_methods.proofs.methods.Methods.method_indexed.Goals as goal

pub returns : goal.returns
returns c =
    let text = c.args.self.now.text.now in
    λ ms us p e. method-says text
    (record { spelling = slice c.args.start c.args.end text; at = p }) ms us e c.find_indexed.ensures
