-- All definitions of this crate opened at once, for theorems that compute: `unfolding parse-opened`.
use Rattle.text.proofs.Opened.{text-opened}
use Rattle.text_parse.specs.Tokens.{extends, finished, tokens_from, tokens_of, is_name, is_numeral, number_from, numeral_of}
use Rattle.text_parse.specs.Grammar.{and_then, leaves_at, expect, expect_name, carried, bracketed, non_void_type, starts_type, return_type, declared_here, has_ends_or, is_withends, operator_at, allocated, allocation, measured_name, more_names, end_names, declaration_of, declaration, declarations, deeper, named_statement, fork_statement, send_statement, recv_statement, simple, condition, parameter, more_parameters, parameters, method_body, method, at_text_end, program, enough, program_of, expr, statement}
use Rattle.text_parse.specs.Text.{or_else_refused, text_from, text_of}

unfoldable pub parse-opened : Unit {0}
unfolding text-opened extends finished tokens_from tokens_of is_name is_numeral number_from numeral_of and_then leaves_at expect
    expect_name carried bracketed non_void_type starts_type return_type declared_here has_ends_or is_withends operator_at
    allocated allocation measured_name more_names end_names declaration_of declaration declarations deeper named_statement
    fork_statement send_statement recv_statement simple condition parameter more_parameters parameters method_body method
    at_text_end program enough program_of expr statement or_else_refused text_from text_of
parse-opened = tt
