-- `put_word` stores the word where there is room for it.
use Rattle.lists.specs.Lists.{put_from}
use Rattle.text_put.specs.TableCode.{words}
use borrow.Author.Rules.{rules}
use Rattle.text_put.proofs.words.put_word.Goals as goal

pub returns : goal.returns
unfolding put_from words
returns c = (c.put.ensures, search rules)
