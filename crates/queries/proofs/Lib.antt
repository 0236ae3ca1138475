mod Impeding
