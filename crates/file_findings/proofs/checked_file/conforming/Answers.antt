use Rattle.file_findings.proofs.checked_file.conforming.Goals as goal

pub checked_by_settings-requires : goal.checked_by_settings-requires
checked_by_settings-requires c = record {
  ready = record {
    sound = c.requires.sound;
    tables = c.requires.tables;
    settings = c.in_ok-settings.ensures;
  };
}
