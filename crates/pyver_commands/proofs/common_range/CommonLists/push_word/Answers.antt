use Rattle.std.proofs.Common.{◌∙◌, ◌++◌, ap, refl, string_bytes, sym}
use Rattle.std.proofs.lemmas.List.{append-nil}
use Rattle.pyver_commands.specs.CommonRanges.{list_reading}
use Rattle.pyver_commands.specs.Matches.{DenotesList, ListFails, list_message}
use Rattle.pyver_commands.proofs.common_range.CommonLists.push_word.Goals as goal

pub returns-in_ok-add_members-in-Specifiers : goal.returns-in_ok-add_members-in-Specifiers
returns-in_ok-add_members-in-Specifiers c =
    let reading = DenotesList c.in-Specifiers.list in (
      list_reading c.args.word.now reading,
      (reading, rw c.in-Specifiers.is at c.in_ok-list.ensures, refl),
      sym (append-nil c.args.self.now.errors.items),
      c.in_ok-add_members-in-Specifiers.ensures,
    )

pub returns-in_ok-push_list_message-in-Invalid : goal.returns-in_ok-push_list_message-in-Invalid
returns-in_ok-push_list_message-in-Invalid c =
    let reading = ListFails (string_bytes c.in-Invalid.message) in (
      list_reading c.args.word.now reading,
      (reading, rw c.in-Invalid.is at c.in_ok-list.ensures, refl),
      c.in_ok-push_list_message-in-Invalid.ensures ∙ ap (λ m. c.args.self.now.errors.items ++ list_message c.args.word.now m) c.as_str.ensures.value,
      sym (append-nil c.args.self.now.members.items),
    )
