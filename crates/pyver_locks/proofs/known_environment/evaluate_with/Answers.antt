use Rattle.std.proofs.Common.{[], ◌∙◌, ◌∷◌, ap, map}
use Rattle.pyver_locks.proofs.Readings.{evaluated_so}
use Rattle.pyver_locks.specs.KnownEnvironments.{cpython_variables}
use Rattle.pyver_markers.specs.Environments.{Text}
use Rattle.pyver_locks.proofs.known_environment.evaluate_with.Goals as goal

pub returns : goal.returns
returns c = λ m is.
    let os = c.assign-6.ensures.setting ∙ ap Text (c.as_bytes.ensures.value ∙ c.os_name.ensures) in
    let platform = c.assign-7.ensures.setting ∙ ap Text (c.as_bytes-2.ensures.value ∙ c.sys_platform.ensures) in
    let system = c.assign-8.ensures.setting ∙ ap Text (c.as_bytes-3.ensures.value ∙ c.platform_system.ensures) in
    let machine = c.assign-9.ensures.setting ∙ ap Text (c.as_bytes-4.ensures.value ∙ c.platform_machine.ensures) in
    let variables = c.assign.result ∷ (c.assign-2.result ∷ (c.assign-3.result ∷ (c.assign-4.result ∷ (c.assign-5.result ∷ (c.assign-6.result ∷ (c.assign-7.result ∷ (c.assign-8.result ∷ (c.assign-9.result ∷ [])))))))) in
    evaluated_so (map (λ n. n.now) c.args.extras.now) (map (λ n. n.now) c.args.groups.now) c.assign_names.result c.assign_names-2.result (c.assign_names.ensures.name, c.assign_names.ensures.setting) (c.assign_names-2.ensures.name, c.assign_names-2.ensures.setting) c.evaluate.result m variables (cpython_variables c.args.system c.args.short.now c.args.full.now) (c.evaluate.ensures m is) (
      (c.assign.ensures.name, c.assign.ensures.setting),
      (
        (c.assign-2.ensures.name, c.assign-2.ensures.setting),
        (
          (c.assign-3.ensures.name, c.assign-3.ensures.setting),
          (
            (c.assign-4.ensures.name, c.assign-4.ensures.setting),
            ((c.assign-5.ensures.name, c.assign-5.ensures.setting), ((c.assign-6.ensures.name, os), ((c.assign-7.ensures.name, platform), ((c.assign-8.ensures.name, system), ((c.assign-9.ensures.name, machine), tt))))),
          ),
        ),
      ),
    )
