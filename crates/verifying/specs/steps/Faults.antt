-- The fault of a verification for each fault of a certificate and of its tables.
use Rattle.certificate_text.specs.declared.fault.CertFault.{CertFault}
use Rattle.certificate_text.specs.declared.fault.CertFault.TheVariants as certificates
use Rattle.certificate_checks.specs.declared.fault.TableFault.{TableFault}
use Rattle.certificate_checks.specs.declared.fault.TableFault.TheVariants as table_faults
use Rattle.reports.specs.declared.refusal.Refusal.TheVariants as refusals
use Rattle.reports.specs.declared.fault.Fault.{Fault}
use Rattle.reports.specs.declared.fault.Fault.TheVariants.{Certificate, Memory}
use Rattle.verifying.specs.declared.fault.TablesFault.{TablesFault}
use Rattle.verifying.specs.declared.fault.TablesFault.TheVariants as tables

abbrev pub certificate_fault : CertFault → TablesFault
certificate_fault certificates.OldVersion = tables.Refused refusals.OldVersion
certificate_fault (certificates.BadText line) = tables.Refused (refusals.BadText line)
certificate_fault certificates.Memory = tables.Memory

abbrev pub table_fault : TableFault → TablesFault
table_fault table_faults.Members = tables.Refused refusals.WrongNames
table_fault table_faults.Ground = tables.Refused refusals.GroundlessSplit
table_fault table_faults.Stable = tables.Refused refusals.Unstable
table_fault table_faults.Memory = tables.Memory

abbrev pub tables_fault : TablesFault → Fault
tables_fault (tables.Refused refusal) = Certificate refusal
tables_fault tables.Memory = Memory
