use Rattle.pep440_rs.proofs.Agreement.TextAgreement.{text_agrees, list_text_agrees, text_holds_only_matches, text_holds_all_matches}
use Rattle.pep440_rs.proofs.laws.range_of_text_agrees.Goals as goal

pub returns-clause-single : goal.returns-clause-single
returns-clause-single c = text_agrees

pub returns-clause-list : goal.returns-clause-list
returns-clause-list c = list_text_agrees

pub returns-clause-within : goal.returns-clause-within
returns-clause-within c = text_holds_only_matches

pub returns-clause-around : goal.returns-clause-around
returns-clause-around c = text_holds_all_matches
