mod Printer
