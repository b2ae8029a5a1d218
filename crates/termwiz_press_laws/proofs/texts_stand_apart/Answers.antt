use Rattle.termwiz_press_laws.proofs.lemmas.TextsApart.{apart_from_more, escape_before_others, escape_stands_apart, keys_stand_apart}
use Rattle.termwiz_press_laws.proofs.texts_stand_apart.Goals as goal

pub returns-clause-keys : goal.returns-clause-keys
returns-clause-keys c = keys_stand_apart

pub returns-clause-escape : goal.returns-clause-escape
returns-clause-escape c = escape_stands_apart

pub returns-clause-others : goal.returns-clause-others
returns-clause-others c = escape_before_others

pub returns-clause-more : goal.returns-clause-more
returns-clause-more c = apart_from_more
